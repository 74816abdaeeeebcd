-- The walk over starts and joins tells what is wrong with the first event with which something is.
use Rattle.std.proofs.Common.{◌≡◌, ◌↔◌, inl, inr, refl, ap, ◌∙◌, sym, subst, ℕ, Bool, true, false, List, [], ◌∷◌, ◌++◌, append_assoc, append-nil, arith, eqb-true, eq-eqb}
use Rattle.std.specs.Prelude.{◌==◌, ◌||◌, Contains, Result, Ok, Err, if◌then◌else◌, is_ok}
use Rattle.std.proofs.lemmas.Bool.{false_from_ne_true, or_right}
use Rattle.std.proofs.lemmas.Bool.Decides.{nat_tests}
use Rattle.std.proofs.lemmas.List.Elements.{Contains-append_cases, Contains-append_left, Contains-append_right}
use Rattle.gp_base.specs.ListLaws.{first_or_rest, here, there}
use Rattle.gp_base.specs.Results.{and_then}
use Rattle.gp_trace.specs.declared.event.Event.{Event}
use Rattle.gp_trace.specs.declared.event.Event.TheVariants.{Start, Join}
use Rattle.gp_trace.specs.Trace.{in_order, LocalTraceForm}
use Rattle.gp_window.specs.declared.fault.RecordingFault.{RecordingFault}
use Rattle.gp_window.specs.declared.fault.RecordingFault.TheVariants.{UnknownThread, StartsRoot, TwoStarts}
use Rattle.gp_window.specs.Starts.{after_event, after_events, after_segments, after_start, after_traces, is_among, is_thread}
use Rattle.gp_window.specs.StartsTold.{events_of, IsFirstWrong, IsThread, IsWrong, NoneIsWrong}

-- a thread is among some exactly where they contain it
among_to : (threads : List ℕ) (thread : ℕ) → is_among threads thread ≡ true → Contains threads thread
among_to [] thread among = absurd (cc)
among_to (other ∷ threads) thread among = by_cases (among_to threads thread) (other == thread) refl among
  where
    by_cases : (is_among threads thread ≡ true → Contains threads thread) → (b : Bool) → (other == thread) ≡ b → (b || is_among threads thread) ≡ true → Contains (other ∷ threads) thread
    by_cases behind true same one = subst (Contains (other ∷ threads)) (eqb-true other thread same) (here other threads)
    by_cases behind false differs one = there other threads thread (behind one)

among_from : (threads : List ℕ) (thread : ℕ) → Contains threads thread → is_among threads thread ≡ true
among_from [] thread holds = absurd (omega (arith, holds.1))
among_from (other ∷ threads) thread holds =
    elim (first_or_rest other threads thread holds) [
      | inl is ↦ ap (λ b. b || is_among threads thread) (eq-eqb other thread is)
      | inr rest ↦ or_right (other == thread) (is_among threads thread) (among_from threads thread rest)
    ]

not_among : (threads : List ℕ) (thread : ℕ) → (Contains threads thread → ⊥) → is_among threads thread ≡ false
not_among threads thread none = false_from_ne_true _ (λ among. none (among_to threads thread among))

-- a number is that of a thread exactly where the test says so
thread_to : (threads thread : ℕ) → is_thread threads thread ≡ true → IsThread threads thread
thread_to threads thread is = grind (arith, nat_tests)

thread_from : (threads thread : ℕ) → IsThread threads thread → is_thread threads thread ≡ true
thread_from threads thread is = grind (arith, nat_tests)

not_thread : (threads thread : ℕ) → (IsThread threads thread → ⊥) → is_thread threads thread ≡ false
not_thread threads thread none = false_from_ne_true _ (λ is. none (thread_to threads thread is))

-- the started threads are those that some event starts
abbrev Agree : List ℕ → List Event → Type 0
Agree started before = (thread : ℕ) → (is_among started thread ≡ true) ↔ Contains before (Start thread)

-- what is wrong with an event is told
wrong_told : (threads : ℕ) (roots started : List ℕ) (before : List Event) (event : Event) (fault : RecordingFault) → Agree started before
    → IsWrong threads roots before event fault → after_event threads roots started event ≡ Err fault
wrong_told threads roots started before event (UnknownThread thread) agree (inl is, none) =
    subst (λ e. after_event threads roots started e ≡ Err (UnknownThread thread)) (sym is)
    (ap (λ b. if b then (if is_among roots thread then Err (StartsRoot thread) else (if is_among started thread then Err (TwoStarts thread) else Ok (started ++ thread ∷ []))) else Err (UnknownThread thread)) (not_thread threads thread none))
wrong_told threads roots started before event (UnknownThread thread) agree (inr is, none) =
    subst (λ e. after_event threads roots started e ≡ Err (UnknownThread thread)) (sym is)
    (ap (λ b. if b then Ok started else Err (UnknownThread thread)) (not_thread threads thread none))
wrong_told threads roots started before event (StartsRoot thread) agree (is, there', root) =
    subst (λ e. after_event threads roots started e ≡ Err (StartsRoot thread)) (sym is)
    (ap (λ b. if b then (if is_among roots thread then Err (StartsRoot thread) else (if is_among started thread then Err (TwoStarts thread) else Ok (started ++ thread ∷ []))) else Err (UnknownThread thread)) (thread_from threads thread there')
    ∙ ap (λ b. if b then Err (StartsRoot thread) else (if is_among started thread then Err (TwoStarts thread) else Ok (started ++ thread ∷ []))) (among_from roots thread root))
wrong_told threads roots started before event (TwoStarts thread) agree (is, there', no_root, twice) =
    subst (λ e. after_event threads roots started e ≡ Err (TwoStarts thread)) (sym is)
    (ap (λ b. if b then (if is_among roots thread then Err (StartsRoot thread) else (if is_among started thread then Err (TwoStarts thread) else Ok (started ++ thread ∷ []))) else Err (UnknownThread thread)) (thread_from threads thread there')
    ∙ ap (λ b. if b then Err (StartsRoot thread) else (if is_among started thread then Err (TwoStarts thread) else Ok (started ++ thread ∷ []))) (not_among roots thread no_root)
    ∙ ap (λ b. if b then Err (TwoStarts thread) else Ok (started ++ thread ∷ [])) ((agree thread).1 twice))
wrong_told threads roots started before event fault agree wrong = absurd wrong

-- an answer is no refusal
abbrev IsRefusal : {A : Type 0} → Result A RecordingFault → Type 0
IsRefusal (Ok value) = ⊥
IsRefusal (Err fault) = Unit {0}

pub same_fault : {A : Type 0} (one other : RecordingFault) → ◌≡◌ {A = Result A RecordingFault} (Err one) (Err other) → one ≡ other
same_fault {A} one other is = ap fault_in is
  where
    fault_in : Result A RecordingFault → RecordingFault
    fault_in (Err fault) = fault
    fault_in (Ok value) = one

-- what is told of a start is wrong with it
start_wrong : (threads : ℕ) (roots started : List ℕ) (before : List Event) (thread : ℕ) (fault : RecordingFault) → Agree started before
    → after_start threads roots started thread ≡ Err fault → IsWrong threads roots before (Start thread) fault
start_wrong threads roots started before thread fault agree told = by_cases (is_thread threads thread) (is_among roots thread) (is_among started thread) refl refl refl told
  where
    by_cases : (a b c : Bool) → is_thread threads thread ≡ a → is_among roots thread ≡ b → is_among started thread ≡ c
        → (if a then (if b then Err (StartsRoot thread) else (if c then Err (TwoStarts thread) else Ok (started ++ thread ∷ []))) else Err (UnknownThread thread)) ≡ Err fault
        → IsWrong threads roots before (Start thread) fault
    by_cases false b c is root again e =
        subst (IsWrong threads roots before (Start thread)) (same_fault _ _ e) (inl refl, λ there'. let no : true ≡ false = sym (thread_from threads thread there') ∙ is in absurd (cc))
    by_cases true true c is root again e = subst (IsWrong threads roots before (Start thread)) (same_fault _ _ e) (refl, thread_to threads thread is, among_to roots thread root)
    by_cases true false true is root again e =
        subst (IsWrong threads roots before (Start thread)) (same_fault _ _ e)
        (refl, thread_to threads thread is, λ one. (let no : true ≡ false = sym (among_from roots thread one) ∙ root in absurd (cc)), (agree thread).0 again)
    by_cases true false false is root again e = absurd (subst IsRefusal (sym e) tt)

join_wrong : (threads : ℕ) (roots started : List ℕ) (before : List Event) (thread : ℕ) (fault : RecordingFault)
    → (if is_thread threads thread then Ok started else Err (UnknownThread thread)) ≡ Err fault → IsWrong threads roots before (Join thread) fault
join_wrong threads roots started before thread fault told = by_cases (is_thread threads thread) refl told
  where
    by_cases : (b : Bool) → is_thread threads thread ≡ b → (if b then Ok started else Err (UnknownThread thread)) ≡ Err fault → IsWrong threads roots before (Join thread) fault
    by_cases true is e = absurd (subst IsRefusal (sym e) tt)
    by_cases false is e =
        subst (IsWrong threads roots before (Join thread)) (same_fault _ _ e) (inr refl, λ there'. let no : true ≡ false = sym (thread_from threads thread there') ∙ is in absurd (cc))

event_wrong : (threads : ℕ) (roots started : List ℕ) (before : List Event) (event : Event) (fault : RecordingFault) → Agree started before
    → after_event threads roots started event ≡ Err fault → IsWrong threads roots before event fault
event_wrong threads roots started before (Start thread) fault agree told = start_wrong threads roots started before thread fault agree told
event_wrong threads roots started before (Join thread) fault agree told = join_wrong threads roots started before thread fault told
event_wrong threads roots started before other fault agree told = absurd (subst IsRefusal (sym told) tt)

same_value : {A : Type 0} (one other : A) → ◌≡◌ {A = Result A RecordingFault} (Ok one) (Ok other) → one ≡ other
same_value {A} one other is = ap value_in is
  where
    value_in : Result A RecordingFault → A
    value_in (Ok value) = value
    value_in (Err fault) = one

-- no event more is started by one that starts none
none_more : (started : List ℕ) (before : List Event) (event : Event) → ((thread : ℕ) → event ≡ Start thread → ⊥) → Agree started before → Agree started (before ++ event ∷ [])
none_more started before event none agree thread = (
  λ among. Contains-append_left before (event ∷ []) (Start thread) ((agree thread).0 among),
  λ holds. elim (Contains-append_cases before (event ∷ []) (Start thread) holds) [
    | inl front ↦ (agree thread).1 front
    | inr last ↦ elim (first_or_rest event [] (Start thread) last) [ inl is ↦ absurd (none thread is) | inr past ↦ absurd (omega (arith, past.1)) ]
  ],
)

-- one thread more
append_among : (started : List ℕ) (one thread : ℕ) → is_among (started ++ one ∷ []) thread ≡ (is_among started thread || (one == thread || false))
append_among [] one thread = refl
append_among (other ∷ started) one thread = by_cases (other == thread) (append_among started one thread)
  where
    by_cases : (b : Bool) → is_among (started ++ one ∷ []) thread ≡ (is_among started thread || (one == thread || false))
        → (b || is_among (started ++ one ∷ []) thread) ≡ ((b || is_among started thread) || (one == thread || false))
    by_cases true rest = refl
    by_cases false rest = rest

one_more : (started : List ℕ) (before : List Event) (one : ℕ) → Agree started before → Agree (started ++ one ∷ []) (before ++ Start one ∷ [])
one_more started before one agree thread = (
  λ among. by_cases (is_among started thread) (one == thread) refl refl (sym (append_among started one thread) ∙ among),
  λ holds. append_among started one thread ∙ elim (Contains-append_cases before (Start one ∷ []) (Start thread) holds) [
    | inl front ↦ ap (λ b. b || (one == thread || false)) ((agree thread).1 front)
    | inr last ↦ elim (first_or_rest (Start one) [] (Start thread) last) [
      | inl is ↦ or_right (is_among started thread) (one == thread || false) (ap (λ b. b || false) (eq-eqb one thread (thread_in is)))
      | inr past ↦ absurd (omega (arith, past.1))
    ]
  ],
)
  where
    started_in : Event → ℕ
    started_in (Start other) = other
    started_in other = 0

    thread_in : ◌≡◌ {A = Event} (Start one) (Start thread) → one ≡ thread
    thread_in is = ap started_in is

    by_cases : (a b : Bool) → is_among started thread ≡ a → (one == thread) ≡ b → (a || (b || false)) ≡ true → Contains (before ++ Start one ∷ []) (Start thread)
    by_cases true b is same e = Contains-append_left before (Start one ∷ []) (Start thread) ((agree thread).0 is)
    by_cases false true is same e =
        Contains-append_right before (Start one ∷ []) (Start thread) (subst (λ n. Contains (Start one ∷ []) (Start n)) (eqb-true one thread same) (here (Start one) []))
    by_cases false false is same e = absurd (cc)

-- the started threads after an event
start_agrees : (threads : ℕ) (roots started next : List ℕ) (before : List Event) (thread : ℕ) → Agree started before
    → after_start threads roots started thread ≡ Ok next → Agree next (before ++ Start thread ∷ [])
start_agrees threads roots started next before thread agree told = by_cases (is_thread threads thread) (is_among roots thread) (is_among started thread) told
  where
    by_cases : (a b c : Bool)
        → (if a then (if b then Err (StartsRoot thread) else (if c then Err (TwoStarts thread) else Ok (started ++ thread ∷ []))) else Err (UnknownThread thread)) ≡ Ok next
        → Agree next (before ++ Start thread ∷ [])
    by_cases false b c e = absurd (subst IsRefusal e tt)
    by_cases true true c e = absurd (subst IsRefusal e tt)
    by_cases true false true e = absurd (subst IsRefusal e tt)
    by_cases true false false e = subst (λ threads'. Agree threads' (before ++ Start thread ∷ [])) (same_value _ _ e) (one_more started before thread agree)

join_agrees : (threads : ℕ) (started next : List ℕ) (before : List Event) (thread : ℕ) → Agree started before
    → (if is_thread threads thread then Ok started else Err (UnknownThread thread)) ≡ Ok next → Agree next (before ++ Join thread ∷ [])
join_agrees threads started next before thread agree told = by_cases (is_thread threads thread) told
  where
    by_cases : (b : Bool) → (if b then Ok started else Err (UnknownThread thread)) ≡ Ok next → Agree next (before ++ Join thread ∷ [])
    by_cases true e = subst (λ threads'. Agree threads' (before ++ Join thread ∷ [])) (same_value _ _ e) (none_more started before (Join thread) (λ other is. cc) agree)
    by_cases false e = absurd (subst IsRefusal e tt)

event_agrees : (threads : ℕ) (roots started next : List ℕ) (before : List Event) (event : Event) → Agree started before
    → after_event threads roots started event ≡ Ok next → Agree next (before ++ event ∷ [])
event_agrees threads roots started next before (Start thread) agree told = start_agrees threads roots started next before thread agree told
event_agrees threads roots started next before (Join thread) agree told = join_agrees threads started next before thread agree told
event_agrees threads roots started next before other agree told =
    subst (λ threads'. Agree threads' (before ++ other ∷ [])) (same_value _ _ told) (none_more started before other (λ thread is. cc) agree)

-- where an event is passed, nothing is wrong with it
passed_right : (threads : ℕ) (roots started next : List ℕ) (before : List Event) (event : Event) → Agree started before
    → after_event threads roots started event ≡ Ok next → (fault : RecordingFault) → IsWrong threads roots before event fault → ⊥
passed_right threads roots started next before event agree passed fault wrong =
    subst IsRefusal (sym (wrong_told threads roots started before event fault agree wrong) ∙ passed) tt

-- a walk is refused with what is wrong with the first event with which something is
pub first_wrong : (threads : ℕ) (roots started : List ℕ) (before events : List Event) (fault : RecordingFault) → Agree started before
    → after_events threads roots started events ≡ Err fault → IsFirstWrong threads roots before events fault
first_wrong threads roots started before [] fault agree told = absurd (subst IsRefusal (sym told) tt)
first_wrong threads roots started before (event ∷ events) fault agree told =
    by_cases (λ next. first_wrong threads roots next (before ++ event ∷ []) events fault) (after_event threads roots started event) refl told
  where
    by_cases : ((next : List ℕ) → Agree next (before ++ event ∷ []) → after_events threads roots next events ≡ Err fault → IsFirstWrong threads roots (before ++ event ∷ []) events fault)
        → (r : Result (List ℕ) RecordingFault) → after_event threads roots started event ≡ r → and_then r (λ more. after_events threads roots more events) ≡ Err fault
        → IsFirstWrong threads roots before (event ∷ events) fault
    by_cases behind (Err other) is e = (
      [],
      event,
      events,
      refl,
      tt,
      subst (λ front. IsWrong threads roots front event fault) (sym (append-nil before))
          (event_wrong threads roots started before event fault agree (is ∙ ap Err (same_fault _ _ e))),
    )
    by_cases behind (Ok next) is e =
        let found = behind next (event_agrees threads roots started next before event agree is) e in (
          event ∷ found.0,
          found.1,
          found.2,
          ap (λ rest. event ∷ rest) found.3,
          (passed_right threads roots started next before event agree is, found.4),
          subst (λ front. IsWrong threads roots front found.1 fault) (append_assoc before (event ∷ []) found.0) found.5,
        )

-- a walk passes events with which nothing is wrong
right_passed : (threads : ℕ) (roots started : List ℕ) (before events : List Event) → Agree started before → NoneIsWrong threads roots before events
    → (next : List ℕ) × (after_events threads roots started events ≡ Ok next) × Agree next (before ++ events)
right_passed threads roots started before [] agree none = (started, refl, subst (Agree started) (sym (append-nil before)) agree)
right_passed threads roots started before (event ∷ events) agree none =
    by_cases (λ next now. right_passed threads roots next (before ++ event ∷ []) events now none.1) (after_event threads roots started event) refl
  where
    by_cases : ((next : List ℕ) → Agree next (before ++ event ∷ []) → (last : List ℕ) × (after_events threads roots next events ≡ Ok last) × Agree last ((before ++ event ∷ []) ++ events))
        → (r : Result (List ℕ) RecordingFault) → after_event threads roots started event ≡ r
        → (last : List ℕ) × (after_events threads roots started (event ∷ events) ≡ Ok last) × Agree last (before ++ (event ∷ events))
    by_cases behind (Err fault) is = absurd (none.0 fault (event_wrong threads roots started before event fault agree is))
    by_cases behind (Ok next) is =
        let found = behind next (event_agrees threads roots started next before event agree is) in
        (found.0, ap (λ r. and_then r (λ more. after_events threads roots more events)) is ∙ found.1, subst (Agree found.0) (append_assoc before (event ∷ []) events) found.2)

-- two parts of a walk
pub events_append : (threads : ℕ) (roots started : List ℕ) (xs ys : List Event)
    → after_events threads roots started (xs ++ ys) ≡ and_then (after_events threads roots started xs) (λ more. after_events threads roots more ys)
events_append threads roots started [] ys = refl
events_append threads roots started (x ∷ xs) ys = by_cases (λ next. events_append threads roots next xs ys) (after_event threads roots started x)
  where
    by_cases : ((next : List ℕ) → after_events threads roots next (xs ++ ys) ≡ and_then (after_events threads roots next xs) (λ more. after_events threads roots more ys))
        → (r : Result (List ℕ) RecordingFault)
        → and_then r (λ more. after_events threads roots more (xs ++ ys)) ≡ and_then (and_then r (λ more. after_events threads roots more xs)) (λ more. after_events threads roots more ys)
    by_cases behind (Ok next) = behind next
    by_cases behind (Err fault) = refl

-- what is wrong with the first event is told
pub wrong_first : (threads : ℕ) (roots started : List ℕ) (before events : List Event) (fault : RecordingFault) → Agree started before
    → IsFirstWrong threads roots before events fault → after_events threads roots started events ≡ Err fault
wrong_first threads roots started before events fault agree (front, event, back, is, none, wrong) =
    let passed = right_passed threads roots started before front agree none in
    ap (after_events threads roots started) is
    ∙ events_append threads roots started front (event ∷ back)
    ∙ ap (λ r. and_then r (λ more. after_events threads roots more (event ∷ back))) passed.1
    ∙ ap (λ r. and_then r (λ more. after_events threads roots more back)) (wrong_told threads roots passed.0 (before ++ front) event fault passed.2 wrong)

-- a walk that passes finds nothing wrong
pub passed_none : (threads : ℕ) (roots started : List ℕ) (before events : List Event) → Agree started before
    → is_ok (after_events threads roots started events) ≡ true → NoneIsWrong threads roots before events
passed_none threads roots started before [] agree ok = tt
passed_none threads roots started before (event ∷ events) agree ok =
    by_cases (λ next. passed_none threads roots next (before ++ event ∷ []) events) (after_event threads roots started event) refl ok
  where
    by_cases : ((next : List ℕ) → Agree next (before ++ event ∷ []) → is_ok (after_events threads roots next events) ≡ true → NoneIsWrong threads roots (before ++ event ∷ []) events)
        → (r : Result (List ℕ) RecordingFault) → after_event threads roots started event ≡ r → is_ok (and_then r (λ more. after_events threads roots more events)) ≡ true
        → NoneIsWrong threads roots before (event ∷ events)
    by_cases behind (Err fault) is e = absurd (cc)
    by_cases behind (Ok next) is e =
        (passed_right threads roots started next before event agree is, behind next (event_agrees threads roots started next before event agree is) e)

pub none_passes : (threads : ℕ) (roots started : List ℕ) (before events : List Event) → Agree started before
    → NoneIsWrong threads roots before events → is_ok (after_events threads roots started events) ≡ true
none_passes threads roots started before events agree none = ap is_ok (right_passed threads roots started before events agree none).1

-- the walk over the segments of a trace is one over its events
segments_walked : (threads : ℕ) (roots started : List ℕ) (segments : List (List Event))
    → after_segments threads roots started segments ≡ after_events threads roots started (in_order segments)
segments_walked threads roots started [] = refl
segments_walked threads roots started (segment ∷ segments) =
    by_cases (λ next. segments_walked threads roots next segments) (after_events threads roots started segment) ∙ sym (events_append threads roots started segment (in_order segments))
  where
    by_cases : ((next : List ℕ) → after_segments threads roots next segments ≡ after_events threads roots next (in_order segments)) → (r : Result (List ℕ) RecordingFault)
        → and_then r (λ more. after_segments threads roots more segments) ≡ and_then r (λ more. after_events threads roots more (in_order segments))
    by_cases behind (Ok next) = behind next
    by_cases behind (Err fault) = refl

-- and the one over the traces is one over the events of all
pub traces_walked : (threads : ℕ) (roots started : List ℕ) (traces : List LocalTraceForm)
    → after_traces threads roots started traces ≡ after_events threads roots started (events_of traces)
traces_walked threads roots started [] = refl
traces_walked threads roots started (trace ∷ traces) =
    ap (λ r. and_then r (λ more. after_traces threads roots more traces)) (segments_walked threads roots started trace.segments)
    ∙ by_cases (λ next. traces_walked threads roots next traces) (after_events threads roots started (in_order trace.segments))
    ∙ sym (events_append threads roots started (in_order trace.segments) (events_of traces))
  where
    by_cases : ((next : List ℕ) → after_traces threads roots next traces ≡ after_events threads roots next (events_of traces)) → (r : Result (List ℕ) RecordingFault)
        → and_then r (λ more. after_traces threads roots more traces) ≡ and_then r (λ more. after_events threads roots more (events_of traces))
    by_cases behind (Ok next) = behind next
    by_cases behind (Err fault) = refl

-- nothing is started before the first event
pub nothing_started : (thread : ℕ) → (is_among [] thread ≡ true) ↔ Contains [] (Start thread)
nothing_started thread = (λ among. absurd (cc), λ holds. absurd (omega (arith, holds.1)))
