-- What the walk over the starts and joins of a recording has seen to: each names a thread that is there, no start a root, and
-- no thread is started twice.
use Rattle.std.proofs.Common.{◌≡◌, refl, subst, inl, inr, Bool, true, false, ℕ, ◌+◌, ◌≤◌, List, [], ◌∷◌, ◌++◌, arith}
use Rattle.std.specs.Prelude.{◌==◌, ◌||◌, Result, Ok, Err, if◌then◌else◌}
use Rattle.std.specs.List.{AllByRecursion}
use Rattle.std.proofs.lemmas.Bool.{cases_Bool}
use Rattle.std.proofs.lemmas.Bool.Decides.{nat_tests}
use Rattle.gp_base.specs.ListLaws.{recursion_append}
use Rattle.gp_base.specs.Results.{and_then}
use Rattle.gp_trace.specs.declared.event.Event.{Event}
use Rattle.gp_trace.specs.declared.event.Event.TheVariants.{Start, Join}
use Rattle.gp_trace.specs.Trace.{in_order, LocalTraceForm}
use Rattle.gp_window.specs.declared.fault.RecordingFault.{RecordingFault}
use Rattle.gp_window.specs.declared.fault.RecordingFault.TheVariants.{UnknownThread, StartsRoot, TwoStarts}
use Rattle.gp_window.specs.Starts.{after_event, after_events, after_segments, after_traces, is_among, is_thread}
use Rattle.gp_window.proofs.Happening.{OfEach}
use Rattle.gp_window.proofs.StartCounts.{in_all, in_events, in_segments, one, starts}

-- a start or a join names a thread that is there, and a start no root
abbrev pub IsKnown : ℕ → List ℕ → Event → Type 0
IsKnown threads roots (Start thread) = (is_thread threads thread ≡ true) × (is_among roots thread ≡ false)
IsKnown threads roots (Join thread) = is_thread threads thread ≡ true
IsKnown threads roots _ = Unit {0}

-- what follows gave a value, so the first step did
pub first_gave : {A B E : Type 0} (first : Result A E) (rest : A → Result B E) (value : B) → and_then first rest ≡ Ok value
    → (a : A) × (first ≡ Ok a) × (rest a ≡ Ok value)
first_gave (Ok a) rest value e = (a, refl, e)
first_gave (Err fault) rest value e = cc

-- a test before a step that gave a value held, or failed
test_held : {A E : Type 0} (b : Bool) (first : Result A E) (fault : E) (value : A) → (if b then first else Err fault) ≡ Ok value → (b ≡ true) × (first ≡ Ok value)
test_held true first fault value e = (refl, e)
test_held false first fault value e = cc

test_failed : {A E : Type 0} (b : Bool) (first : Result A E) (fault : E) (value : A) → (if b then Err fault else first) ≡ Ok value → (b ≡ false) × (first ≡ Ok value)
test_failed true first fault value e = cc
test_failed false first fault value e = (refl, e)

same_ok : (started more : List ℕ) → ◌≡◌ {A = Result (List ℕ) RecordingFault} (Ok started) (Ok more) → started ≡ more
same_ok started more e = cc

-- the threads that are started before, and what was started by events, are started after
abbrev Adds : List ℕ → List ℕ → (ℕ → ℕ) → Type 0
Adds started more count = (thread : ℕ) → one (is_among started thread) + count thread ≤ one (is_among more thread)

one_added : (started : List ℕ) (other thread : ℕ) → is_among started other ≡ false
    → one (is_among started thread) + one (other == thread) ≤ one (is_among (started ++ other ∷ []) thread)
one_added started other thread anew =
    elim (cases_Bool (other == thread)) [
      | inl same ↦
          let none : is_among started thread ≡ false = subst (λ t. is_among started t ≡ false) (grind (arith, nat_tests)) anew in
          let now = last_among started other thread same in
          rw (none, same, now) (omega arith)
      | inr apart ↦ rw apart (front_kept started other thread)
    ]
  where
    last_among : (xs : List ℕ) (x t : ℕ) → (x == t) ≡ true → is_among (xs ++ x ∷ []) t ≡ true
    last_among [] x t same = rw same refl
    last_among (y ∷ xs) x t same = let rest = last_among xs x t same in either (y == t) (is_among (xs ++ x ∷ []) t) rest
      where
        either : (a b : Bool) → b ≡ true → (a || b) ≡ true
        either true b e = refl
        either false b e = e

    front_kept : (xs : List ℕ) (x t : ℕ) → one (is_among xs t) + 0 ≤ one (is_among (xs ++ x ∷ []) t)
    front_kept [] x t = omega arith
    front_kept (y ∷ xs) x t = at (y == t) (front_kept xs x t)
      where
        at : (b : Bool) → one (is_among xs t) + 0 ≤ one (is_among (xs ++ x ∷ []) t) → one (b || is_among xs t) + 0 ≤ one (b || is_among (xs ++ x ∷ []) t)
        at true rest = omega arith
        at false rest = rest

-- what the walk has seen to in events
abbrev Walks : ℕ → List ℕ → List ℕ → List ℕ → List Event → (ℕ → ℕ) → Type 0
Walks threads roots started more events count = AllByRecursion (IsKnown threads roots) events × Adds started more count

event_walk : (threads : ℕ) (roots started more : List ℕ) (event : Event) → after_event threads roots started event ≡ Ok more
    → IsKnown threads roots event × Adds started more (λ thread. starts thread event)
event_walk threads roots started more (Start other) e =
    let known = test_held (is_thread threads other) _ (UnknownThread other) more e in
    let root = test_failed (is_among roots other) _ (StartsRoot other) more known.1 in
    let anew = test_failed (is_among started other) _ (TwoStarts other) more root.1 in (
      (known.0, root.0),
      λ thread.
          subst (λ list. one (is_among started thread) + one (other == thread) ≤ one (is_among list thread)) (same_ok (started ++ other ∷ []) more anew.1)
          (one_added started other thread anew.0),
    )
event_walk threads roots started more (Join other) e =
    let known = test_held (is_thread threads other) (Ok started) (UnknownThread other) more e in
    (known.0, λ thread. subst (λ list. one (is_among started thread) + 0 ≤ one (is_among list thread)) (same_ok started more known.1) (omega arith))
event_walk threads roots started more _ e =
    (tt, λ thread. subst (λ list. one (is_among started thread) + 0 ≤ one (is_among list thread)) (same_ok started more e) (omega arith))

nothing_added : (started more : List ℕ) → ◌≡◌ {A = Result (List ℕ) RecordingFault} (Ok started) (Ok more) → Adds started more (λ thread. 0)
nothing_added started more e thread =
    subst (λ list. one (is_among started thread) + 0 ≤ one (is_among list thread)) (same_ok started more e) (omega arith)

adds_both : (started middle more : List ℕ) (first rest : ℕ → ℕ) → Adds started middle first → Adds middle more rest → Adds started more (λ thread. first thread + rest thread)
adds_both started middle more first rest one_more others thread =
    let a = one_more thread in
    let b = others thread in
    omega (arith, a, b)

events_walk : (threads : ℕ) (roots started more : List ℕ) (events : List Event) → after_events threads roots started events ≡ Ok more
    → Walks threads roots started more events (λ thread. in_events thread events)
events_walk threads roots started more [] e = (tt, nothing_added started more e)
events_walk threads roots started more (event ∷ events) e =
    let step = first_gave (after_event threads roots started event) (λ middle. after_events threads roots middle events) more e in
    let first = event_walk threads roots started step.0 event step.1 in
    let rest = events_walk threads roots step.0 more events step.2 in
    ((first.0, rest.0), adds_both started step.0 more (λ thread. starts thread event) (λ thread. in_events thread events) first.1 rest.1)

segments_walk : (threads : ℕ) (roots started more : List ℕ) (segments : List (List Event)) → after_segments threads roots started segments ≡ Ok more
    → Walks threads roots started more (in_order segments) (λ thread. in_segments thread segments)
segments_walk threads roots started more [] e = (tt, nothing_added started more e)
segments_walk threads roots started more (segment ∷ segments) e =
    let step = first_gave (after_events threads roots started segment) (λ middle. after_segments threads roots middle segments) more e in
    let first = events_walk threads roots started step.0 segment step.1 in
    let rest = segments_walk threads roots step.0 more segments step.2 in (
      recursion_append (IsKnown threads roots) segment (in_order segments) first.0 rest.0,
      adds_both started step.0 more (λ thread. in_events thread segment) (λ thread. in_segments thread segments) first.1 rest.1,
    )

-- the walk over all traces
pub traces_walk : (threads : ℕ) (roots started more : List ℕ) (traces : List LocalTraceForm) → after_traces threads roots started traces ≡ Ok more
    → OfEach (λ thread event. IsKnown threads roots event) traces × ((thread : ℕ) → one (is_among started thread) + in_all thread traces ≤ one (is_among more thread))
traces_walk threads roots started more [] e = (tt, nothing_added started more e)
traces_walk threads roots started more (trace ∷ traces) e =
    let step = first_gave (after_segments threads roots started trace.segments) (λ middle. after_traces threads roots middle traces) more e in
    let first = segments_walk threads roots started step.0 trace.segments step.1 in
    let rest = traces_walk threads roots step.0 more traces step.2 in
    ((first.0, rest.0), adds_both started step.0 more (λ thread. in_segments thread trace.segments) (λ thread. in_all thread traces) first.1 rest.1)
