-- Which threads are started, in windows that were cut out: those that run by then are roots, and none of them is started again.
use Rattle.std.proofs.Common.{◌≡◌, ◌∙◌, refl, ap, sym, inl, inr, Bool, true, false, cond, ℕ, zero, suc, ◌+◌, ◌<◌, ◌≤◌, List, [], ◌∷◌, ◌++◌, map, drop, arith, append_assoc, append-nil}
use Rattle.std.specs.Prelude.{Contains, ◌==◌, ◌&&◌, ◌||◌, filter, flat_map, slice_get, unwrap_or}
use Rattle.std.specs.List.{AllByRecursion}
use Rattle.std.proofs.lemmas.Bool.{cases_Bool, false≢true, or_cases}
use Rattle.gp_base.specs.CountLaws.{count_one}
use Rattle.gp_base.specs.FilterLaws.{contains_from_filter}
use Rattle.gp_base.specs.ListLaws.{here, recursion_append, recursion_at, recursion_from_each, recursion_map, recursion_parts, there}
use Rattle.gp_base.specs.SumLaws.{count_append, count_cons}
use Rattle.gp_trace.specs.declared.event.Event.{Event}
use Rattle.gp_trace.specs.declared.event.Event.TheVariants.{Start, Begin}
use Rattle.gp_trace.specs.declared.lock_use.LockMode.{LockMode}
use Rattle.gp_trace.specs.declared.lock_use.LockMode.TheVariants.{Exclusive, Shared}
use Rattle.gp_trace.specs.declared.rules.Standing.{Standing}
use Rattle.gp_trace.specs.Trace.{in_order, LocalTraceForm}
use Rattle.gp_window.specs.AmongLaws.{among_append, among_kept}
use Rattle.gp_window.specs.Holders.{segment_after}
use Rattle.gp_window.specs.Starts.{is_among}
use Rattle.gp_window.specs.StartsTold.{events_of, NamesThread, NoneIsWrong}
use Rattle.gp_window.specs.WindowForm.{chosen, numbers_from, started_before, started_by, started_in}
use Rattle.gp_cut.specs.Cut.{cut_trace, staged, standing_behind, taking}
use Rattle.gp_cut.proofs.Cutting.{all_parts, each_kept, events_before, events_there, segment_kept}
use Rattle.gp_cut.proofs.Naming.{all_name_well, NamesWell, nothing_wrong, once_each, started_it, starts, starts_it, times}
use Rattle.gp_cut.proofs.Roots.{among_from, among_to}

-- what sets the stage starts and joins no thread
names_none : (one : List ℕ × LockMode) (thread : ℕ) → NamesThread (taking one) thread → ⊥
names_none (lock, Exclusive) thread (inl is) = cc
names_none (lock, Exclusive) thread (inr is) = cc
names_none (lock, Shared) thread (inl is) = cc
names_none (lock, Shared) thread (inr is) = cc

begins_none : (region : List ℕ) (thread : ℕ) → NamesThread (Begin region) thread → ⊥
begins_none region thread (inl is) = cc
begins_none region thread (inr is) = cc

abbrev NamesNone : Event → Type 0
NamesNone event = (thread : ℕ) → NamesThread event thread → ⊥

staged_names_none : (s : Standing) → AllByRecursion NamesNone (staged s)
staged_names_none s =
    recursion_append NamesNone (map taking s.held) (map Begin s.begun)
    (recursion_map NamesNone taking s.held (λ one i. names_none one)) (recursion_map NamesNone Begin s.begun (λ region i. begins_none region))

none_started : (thread : ℕ) (events : List Event) → AllByRecursion NamesNone events → times thread events ≡ 0
none_started thread [] all = refl
none_started thread (event ∷ events) all =
    elim (cases_Bool (starts thread event)) [
      | inl is ↦ absurd (all.0 thread (inl (started_it thread event is)))
      | inr fails ↦
          let none : ◌≡◌ {A = ℕ} (cond (starts thread event) 1 0) 0 = ap (λ b. cond {A = ℕ} b 1 0) fails in
          omega (arith, count_cons (starts thread) event events, none, none_started thread events all.1)
    ]

-- how often a thread is started before, in all traces
abbrev times_before : ℕ → ℕ → List LocalTraceForm → ℕ
times_before thread before [] = 0
times_before thread before (trace ∷ traces) = times thread (events_before before trace.segments) + times_before thread before traces

-- what is started before, and what is started in the part, is no more than all
times_kept : (thread before count : ℕ) (traces : List LocalTraceForm)
    → times_before thread before traces + times thread (events_of (map (cut_trace before count) traces)) ≤ times thread (events_of traces)
times_kept thread before count [] = omega arith
times_kept thread before count (trace ∷ traces) =
    let stage : List Event = staged (standing_behind before trace) in
    let part : List Event = events_there before count trace.segments in
    let none : times thread stage ≡ 0 = none_started thread stage (staged_names_none (standing_behind before trace)) in
    let own = count_append (starts thread) stage part in
    let cut = count_append (starts thread) (stage ++ part) (events_of (map (cut_trace before count) traces)) in
    let whole = count_append (starts thread) (in_order trace.segments) (events_of traces) in
    let parts = ap (times thread) (all_parts before count trace.segments) in
    let first = count_append (starts thread) (events_before before trace.segments) (part ++ in_order (drop count (drop before trace.segments))) in
    let later = count_append (starts thread) part (in_order (drop count (drop before trace.segments))) in
    let rest = times_kept thread before count traces in
    omega (arith, none, own, cut, whole, parts, first, later, rest)

started_once : (thread : ℕ) (events : List Event) → is_among (flat_map started_by events) thread ≡ true → 1 ≤ times thread events
started_once thread [] e = absurd (false≢true e)
started_once thread (event ∷ events) e =
    let all = count_cons (starts thread) event events in
    elim (or_cases (is_among (started_by event) thread) (is_among (flat_map started_by events) thread) (sym (among_append (started_by event) (flat_map started_by events) thread) ∙ e)) [
      | inl own ↦ (let now : ◌≡◌ {A = ℕ} (cond (starts thread event) 1 0) 1 = ap (λ b. cond {A = ℕ} b 1 0) (by_event event own) in omega (arith, all, now))
      | inr rest ↦ (let some = started_once thread events rest in omega (arith, all, some))
    ]
  where
    by_event : (event : Event) → is_among (started_by event) thread ≡ true → starts thread event ≡ true
    by_event (Start other) e = elim (or_cases (other == thread) false e) [ inl is ↦ is | inr none ↦ absurd (false≢true none) ]
    by_event _ e = absurd (false≢true e)

one_more : (thread : ℕ) (segments : List (List Event)) (before : ℕ)
    → times thread (events_before (suc before) segments) ≡ times thread (events_before before segments) + times thread (unwrap_or (slice_get segments before) [])
one_more thread [] zero = refl
one_more thread [] (suc before) = refl
one_more thread (segment ∷ segments) zero = omega (arith, ap (times thread) (append-nil segment))
one_more thread (segment ∷ segments) (suc before) =
    omega (arith, one_more thread segments before, count_append (starts thread) segment (events_before (suc before) segments), count_append (starts thread) segment (events_before before segments))

window_grows : (thread before : ℕ) (traces : List LocalTraceForm) → times_before thread before traces ≤ times_before thread (suc before) traces
window_grows thread before [] = omega arith
window_grows thread before (trace ∷ traces) = omega (arith, one_more thread trace.segments before, window_grows thread before traces)

window_counted : (thread before : ℕ) (traces : List LocalTraceForm) → is_among (started_in before traces) thread ≡ true
    → times_before thread before traces + 1 ≤ times_before thread (suc before) traces
window_counted thread before [] e = absurd (false≢true e)
window_counted thread before (trace ∷ traces) e =
    let own = one_more thread trace.segments before in
    elim (or_cases (is_among (flat_map started_by (segment_after before trace)) thread) (is_among (started_in before traces) thread)
    (sym (among_append (flat_map started_by (segment_after before trace)) (started_in before traces) thread) ∙ e)) [
      | inl here ↦ (let some = started_once thread (segment_after before trace) here in omega (arith, own, some, window_grows thread before traces))
      | inr rest ↦ (let some = window_counted thread before traces rest in omega (arith, own, some))
    ]

-- a thread that was started before counts once at least
before_counted : (thread before : ℕ) (traces : List LocalTraceForm) → is_among (started_before before traces) thread ≡ true → 1 ≤ times_before thread before traces
before_counted thread zero traces e = absurd (false≢true e)
before_counted thread (suc before) traces e =
    elim (or_cases (is_among (started_before before traces) thread) (is_among (started_in before traces) thread)
    (sym (among_append (started_before before traces) (started_in before traces) thread) ∙ e)) [
      | inl early ↦ (let some = before_counted thread before traces early in omega (arith, some, window_grows thread before traces))
      | inr now ↦ (let some = window_counted thread before traces now in omega (arith, some))
    ]

-- what holds of each event of the whole holds of each in the windows that were cut out
cut_each : (P : Event → Type 0) (before count : ℕ) (traces : List LocalTraceForm) → AllByRecursion P (events_of traces) → AllByRecursion P (events_of (map (cut_trace before count) traces))
cut_each P before count [] all = tt
cut_each P before count (trace ∷ traces) all =
    let parts = recursion_parts P (in_order trace.segments) (events_of traces) all in
    recursion_append P (staged (standing_behind before trace) ++ events_there before count trace.segments) (events_of (map (cut_trace before count) traces))
    (each_kept P before count trace.segments parts.0) (cut_each P before count traces parts.1)

-- nothing is wrong with the starts and joins where nothing was wrong with those of the whole
pub starts_kept : (threads before count : ℕ) (roots : List ℕ) (traces : List LocalTraceForm) → NoneIsWrong threads roots [] (events_of traces)
    → NoneIsWrong threads (chosen roots (started_before before traces) (numbers_from 1 threads)) [] (events_of (map (cut_trace before count) traces))
starts_kept threads before count roots traces none =
    nothing_wrong threads (chosen roots (started_before before traces) (numbers_from 1 threads)) [] cut
    (recursion_from_each (NamesWell threads (chosen roots (started_before before traces) (numbers_from 1 threads))) cut (λ event i thread names.
    let own = recursion_at (NamesWell threads roots) cut event well i thread names in
    (own.0, λ start root. still event i thread start own.1 root)))
    (λ thread. omega (arith, once thread, times_kept thread before count traces))
  where
    cut : List Event
    cut = events_of (map (cut_trace before count) traces)

    well : AllByRecursion (NamesWell threads roots) cut
    well = cut_each (NamesWell threads roots) before count traces (all_name_well threads roots [] (events_of traces) none)

    once : (thread : ℕ) → times thread (events_of traces) ≤ 1
    once thread = once_each threads roots [] (events_of traces) thread none (omega arith)

    still : (event : Event) → Contains cut event → (thread : ℕ) → event ≡ Start thread → (event ≡ Start thread → Contains roots thread → ⊥)
        → Contains (chosen roots (started_before before traces) (numbers_from 1 threads)) thread → ⊥
    still event i thread start unless root =
        let test : ℕ → Bool = λ t. is_among roots t || is_among (started_before before traces) t in
        elim (or_cases (is_among roots thread) (is_among (started_before before traces) thread) (contains_from_filter test (numbers_from 1 threads) thread root).1) [
          | inl was ↦ unless start (among_to roots thread was)
          | inr early ↦
              let first = before_counted thread before traces early in
              let again = count_one (starts thread) cut event i (starts_it thread event start) in
              absurd (omega (arith, first, again, once thread, times_kept thread before count traces))
        ]

no_starts : (events : List Event) → AllByRecursion NamesNone events → flat_map started_by events ≡ []
no_starts [] all = refl
no_starts (event ∷ events) all = ap (λ first. first ++ flat_map started_by events) (starts_none event all.0) ∙ no_starts events all.1
  where
    starts_none : (event : Event) → NamesNone event → started_by event ≡ []
    starts_none (Start thread) none = absurd (none thread (inl refl))
    starts_none _ none = refl

-- no thread is started in the stage
stage_starts_none : (before count : ℕ) (traces : List LocalTraceForm) → started_in 0 (map (cut_trace before count) traces) ≡ []
stage_starts_none before count [] = refl
stage_starts_none before count (trace ∷ traces) =
    ap (λ first. first ++ started_in 0 (map (cut_trace before count) traces)) (no_starts (staged (standing_behind before trace)) (staged_names_none (standing_behind before trace)))
    ∙ stage_starts_none before count traces

started_there : (before count i : ℕ) (traces : List LocalTraceForm) → i < count → started_in (suc i) (map (cut_trace before count) traces) ≡ started_in (before + i) traces
started_there before count i [] within = refl
started_there before count i (trace ∷ traces) within =
    ap (λ segment. flat_map started_by segment ++ started_in (suc i) (map (cut_trace before count) traces)) (segment_kept before count i trace within)
    ∙ ap (λ rest. flat_map started_by (segment_after (before + i) trace) ++ rest) (started_there before count i traces within)

-- the threads that are started in windows of the whole: those that are before, and then those in the windows behind the stage
started_kept : (before count j : ℕ) (traces : List LocalTraceForm) → j ≤ count
    → started_before (before + j) traces ≡ started_before before traces ++ started_before (suc j) (map (cut_trace before count) traces)
started_kept before count zero traces within =
    let place : before + 0 ≡ before = omega arith in
    ap (λ n. started_before n traces) place ∙ sym (append-nil (started_before before traces))
    ∙ ap (λ more. started_before before traces ++ more) (sym (stage_starts_none before count traces))
started_kept before count (suc j) traces within =
    let cut : List LocalTraceForm = map (cut_trace before count) traces in
    let place : before + suc j ≡ suc (before + j) = omega arith in
    ap (λ n. started_before n traces) place
    ∙ ap (λ early. early ++ started_in (before + j) traces) (started_kept before count j traces (omega (arith, within)))
    ∙ append_assoc (started_before before traces) (started_before (suc j) cut) (started_in (before + j) traces)
    ∙ ap (λ last. started_before before traces ++ (started_before (suc j) cut ++ last)) (sym (started_there before count j traces (omega (arith, within))))

-- two tests that agree on the elements of a list
agree_within : {X : Type 0} (p q : X → Bool) (xs : List X) → ((x : X) → Contains xs x → p x ≡ q x) → filter p xs ≡ filter q xs
agree_within p q [] same = refl
agree_within p q (x ∷ xs) same =
    let rest : filter p xs ≡ filter q xs = agree_within p q xs (λ y i. same y (there x xs y i)) in
    λ i. cond (same x (here x xs) i) (x ∷ rest i) (rest i)

or_assoc : (a b c : Bool) → ((a || b) || c) ≡ (a || (b || c))
or_assoc true b c = refl
or_assoc false b c = refl

-- the threads that run when a window behind the stage begins are those of the window that it stands for
pub runs_kept : (threads before count j : ℕ) (roots : List ℕ) (traces : List LocalTraceForm) → j ≤ count
    → chosen (chosen roots (started_before before traces) (numbers_from 1 threads)) (started_before (suc j) (map (cut_trace before count) traces)) (numbers_from 1 threads)
    ≡ chosen roots (started_before (before + j) traces) (numbers_from 1 threads)
runs_kept threads before count j roots traces within =
    agree_within
    (λ thread. is_among (chosen roots (started_before before traces) (numbers_from 1 threads)) thread || is_among (started_before (suc j) (map (cut_trace before count) traces)) thread)
    (λ thread. is_among roots thread || is_among (started_before (before + j) traces) thread) (numbers_from 1 threads)
    (λ thread i.
    let early : Bool = is_among (started_before before traces) thread in
    let late : Bool = is_among (started_before (suc j) (map (cut_trace before count) traces)) thread in
    ap (λ first. first || late)
    (among_kept (λ t. is_among roots t || is_among (started_before before traces) t) (numbers_from 1 threads) thread
    ∙ ap (λ there. (is_among roots thread || early) && there) (among_from (numbers_from 1 threads) thread i) ∙ and_true (is_among roots thread || early))
    ∙ or_assoc (is_among roots thread) early late
    ∙ ap (λ rest. is_among roots thread || rest)
    (sym (among_append (started_before before traces) (started_before (suc j) (map (cut_trace before count) traces)) thread)
    ∙ ap (λ started. is_among started thread) (sym (started_kept before count j traces within))))
  where
    and_true : (b : Bool) → (b && true) ≡ b
    and_true true = refl
    and_true false = refl
