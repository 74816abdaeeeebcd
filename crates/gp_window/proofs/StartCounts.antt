-- How often a thread is started: in events, in the segments of a trace and of a window, and in all traces.
use Rattle.std.proofs.Common.{◌≡◌, ◌⊎◌, refl, ap, sym, subst, inl, inr, Bool, true, false, ℕ, zero, suc, ◌+◌, ◌≤◌, List, [], ◌∷◌, ◌++◌, map, take, arith}
use Rattle.std.specs.Prelude.{◌==◌, flat_map, Option, Some, slice_get, unwrap_or}
use Rattle.std.proofs.lemmas.Bool.{cases_Bool, eq-eqb, false≢true}
use Rattle.gp_trace.specs.declared.event.Event.{Event}
use Rattle.gp_trace.specs.declared.event.Event.TheVariants.{Start}
use Rattle.gp_trace.specs.Trace.{LocalTraceForm}
use Rattle.gp_window.specs.declared.schedule.EventId.{EventId}
use Rattle.gp_window.specs.Events.{event_in, segment_in}
use Rattle.gp_window.specs.Holders.{segment_after}
use Rattle.gp_window.specs.Starts.{is_among}
use Rattle.gp_window.specs.WindowForm.{started_before, started_by, started_in}

abbrev pub one : Bool → ℕ
one true = 1
one false = 0

-- how often an event starts a thread
abbrev pub starts : ℕ → Event → ℕ
starts thread (Start other) = one (other == thread)
starts thread _ = 0

-- how often events do, the segments of a trace, and all traces
abbrev pub in_events : ℕ → List Event → ℕ
in_events thread [] = 0
in_events thread (event ∷ events) = starts thread event + in_events thread events

abbrev pub in_segments : ℕ → List (List Event) → ℕ
in_segments thread [] = 0
in_segments thread (segment ∷ segments) = in_events thread segment + in_segments thread segments

abbrev pub in_all : ℕ → List LocalTraceForm → ℕ
in_all thread [] = 0
in_all thread (trace ∷ traces) = in_segments thread trace.segments + in_all thread traces

-- how often the segments do that have fewer than so many before them
abbrev in_first : ℕ → ℕ → List LocalTraceForm → ℕ
in_first before thread [] = 0
in_first before thread (trace ∷ traces) = in_segments thread (take before trace.segments) + in_first before thread traces

trace_more : (thread : ℕ) (segments : List (List Event)) (before : ℕ)
    → in_segments thread (take (suc before) segments) ≡ in_segments thread (take before segments) + in_events thread (unwrap_or (slice_get segments before) [])
trace_more thread [] zero = refl
trace_more thread [] (suc before) = refl
trace_more thread (segment ∷ segments) zero = omega arith
trace_more thread (segment ∷ segments) (suc before) = let rest = trace_more thread segments before in omega (arith, rest)

window_more : (thread : ℕ) (traces : List LocalTraceForm) (before : ℕ)
    → in_first (suc before) thread traces ≡ in_first before thread traces + in_segments thread (map (segment_after before) traces)
window_more thread [] before = refl
window_more thread (trace ∷ traces) before =
    let first = trace_more thread trace.segments before in
    let rest = window_more thread traces before in
    omega (arith, first, rest)

trace_less : (thread : ℕ) (segments : List (List Event)) (before : ℕ) → in_segments thread (take before segments) ≤ in_segments thread segments
trace_less thread [] zero = omega arith
trace_less thread [] (suc before) = omega arith
trace_less thread (segment ∷ segments) zero = omega arith
trace_less thread (segment ∷ segments) (suc before) = let rest = trace_less thread segments before in omega (arith, rest)

all_less : (thread : ℕ) (traces : List LocalTraceForm) (before : ℕ) → in_first before thread traces ≤ in_all thread traces
all_less thread [] before = omega arith
all_less thread (trace ∷ traces) before =
    let first = trace_less thread trace.segments before in
    let rest = all_less thread traces before in
    omega (arith, first, rest)

-- what is among two lists together is among one of them
among_parts : (xs ys : List ℕ) (thread : ℕ) → is_among (xs ++ ys) thread ≡ true → (is_among xs thread ≡ true) ⊎ (is_among ys thread ≡ true)
among_parts [] ys thread e = inr e
among_parts (x ∷ xs) ys thread e =
    elim (cases_Bool (x == thread)) [
      | inl same ↦ inl (rw same refl)
      | inr apart ↦ elim (among_parts xs ys thread (rw apart at e)) [
        | inl first ↦ inl (rw apart first)
        | inr second ↦ inr second
      ]
    ]

event_starts : (thread : ℕ) (event : Event) → is_among (started_by event) thread ≡ true → 1 ≤ starts thread event
event_starts thread (Start other) e =
    elim (cases_Bool (other == thread)) [
      | inl same ↦ rw same (omega arith)
      | inr apart ↦ absurd (false≢true (rw apart at e))
    ]
event_starts thread _ e = absurd (false≢true e)

events_start : (thread : ℕ) (events : List Event) → is_among (flat_map started_by events) thread ≡ true → 1 ≤ in_events thread events
events_start thread [] e = absurd (false≢true e)
events_start thread (event ∷ events) e =
    elim (among_parts (started_by event) (flat_map started_by events) thread e) [
      | inl first ↦ (let here = event_starts thread event first in omega (arith, here))
      | inr rest ↦ (let there = events_start thread events rest in omega (arith, there))
    ]

window_starts : (thread before : ℕ) (traces : List LocalTraceForm) → is_among (started_in before traces) thread ≡ true
    → 1 ≤ in_segments thread (map (segment_after before) traces)
window_starts thread before [] e = absurd (false≢true e)
window_starts thread before (trace ∷ traces) e =
    elim (among_parts (flat_map started_by (segment_after before trace)) (started_in before traces) thread e) [
      | inl first ↦ (let here = events_start thread (segment_after before trace) first in omega (arith, here))
      | inr rest ↦ (let there = window_starts thread before traces rest in omega (arith, there))
    ]

started_counted : (thread : ℕ) (traces : List LocalTraceForm) (before : ℕ) → is_among (started_before before traces) thread ≡ true
    → 1 ≤ in_first before thread traces
started_counted thread traces zero e = absurd (false≢true e)
started_counted thread traces (suc before) e =
    let more = window_more thread traces before in
    elim (among_parts (started_before before traces) (started_in before traces) thread e) [
      | inl first ↦ (let here = started_counted thread traces before first in omega (arith, more, here))
      | inr last ↦ (let here = window_starts thread before traces last in omega (arith, more, here))
    ]

event_counted : (thread : ℕ) (event : Event) → event ≡ Start thread → 1 ≤ starts thread event
event_counted thread event is =
    let same : (thread == thread) ≡ true = eq-eqb thread thread refl in
    subst (λ e. 1 ≤ starts thread e) (sym is) (rw same (omega arith))

is_start : (event : Event) (thread : ℕ) → ◌≡◌ {A = Option Event} (Some event) (Some (Start thread)) → event ≡ Start thread
is_start event thread e = cc

found_counted : (thread : ℕ) (events : List Event) (i : ℕ) → slice_get events i ≡ Some (Start thread) → 1 ≤ in_events thread events
found_counted thread [] i e = cc
found_counted thread (event ∷ events) zero e = let here = event_counted thread event (is_start event thread e) in omega (arith, here)
found_counted thread (event ∷ events) (suc i) e = let there = found_counted thread events i e in omega (arith, there)

place_counted : (thread : ℕ) (segments : List (List Event)) (place i : ℕ) → slice_get (unwrap_or (slice_get segments place) []) i ≡ Some (Start thread)
    → 1 ≤ in_segments thread segments
place_counted thread [] place i e = cc
place_counted thread (segment ∷ segments) zero i e = let here = found_counted thread segment i e in omega (arith, here)
place_counted thread (segment ∷ segments) (suc place) i e = let there = place_counted thread segments place i e in omega (arith, there)

id_counted : (thread : ℕ) (segments : List (List Event)) (doer i : ℕ) → slice_get (segment_in segments doer) i ≡ Some (Start thread) → 1 ≤ in_segments thread segments
id_counted thread segments zero i e = cc
id_counted thread segments (suc place) i e = place_counted thread segments place i e

-- a thread that is started in a window was not started in an earlier one, where no thread is started twice
pub started_now : (thread before : ℕ) (traces : List LocalTraceForm) (id : EventId) → in_all thread traces ≤ 1
    → event_in (map (segment_after before) traces) id ≡ Some (Start thread) → is_among (started_before before traces) thread ≡ true → ⊥
started_now thread before traces id few starts was =
    let now = id_counted thread (map (segment_after before) traces) id.thread id.index starts in
    let earlier = started_counted thread traces before was in
    let more = window_more thread traces before in
    let all = all_less thread traces (suc before) in
    absurd (omega (arith, now, earlier, more, all, few))

found_once : (thread : ℕ) (events : List Event) (i j : ℕ) → in_events thread events ≤ 1 → slice_get events i ≡ Some (Start thread)
    → slice_get events j ≡ Some (Start thread) → i ≡ j
found_once thread [] i j few first second = cc
found_once thread (event ∷ events) zero zero few first second = refl
found_once thread (event ∷ events) zero (suc j) few first second =
    let here = event_counted thread event (is_start event thread first) in
    let there = found_counted thread events j second in
    absurd (omega (arith, here, there, few))
found_once thread (event ∷ events) (suc i) zero few first second =
    let here = event_counted thread event (is_start event thread second) in
    let there = found_counted thread events i first in
    absurd (omega (arith, here, there, few))
found_once thread (event ∷ events) (suc i) (suc j) few first second =
    ap suc (found_once thread events i j (omega (arith, few)) first second)

place_once : (thread : ℕ) (segments : List (List Event)) (p q i j : ℕ) → in_segments thread segments ≤ 1
    → slice_get (unwrap_or (slice_get segments p) []) i ≡ Some (Start thread) → slice_get (unwrap_or (slice_get segments q) []) j ≡ Some (Start thread)
    → (p ≡ q) × (i ≡ j)
place_once thread [] p q i j few first second = cc
place_once thread (segment ∷ segments) zero zero i j few first second = (refl, found_once thread segment i j (omega (arith, few)) first second)
place_once thread (segment ∷ segments) zero (suc q) i j few first second =
    let here = found_counted thread segment i first in
    let there = place_counted thread segments q j second in
    absurd (omega (arith, here, there, few))
place_once thread (segment ∷ segments) (suc p) zero i j few first second =
    let here = found_counted thread segment j second in
    let there = place_counted thread segments p i first in
    absurd (omega (arith, here, there, few))
place_once thread (segment ∷ segments) (suc p) (suc q) i j few first second =
    let rest = place_once thread segments p q i j (omega (arith, few)) first second in (ap suc rest.0, rest.1)

id_once : (thread : ℕ) (segments : List (List Event)) (a b i j : ℕ) → in_segments thread segments ≤ 1 → slice_get (segment_in segments a) i ≡ Some (Start thread)
    → slice_get (segment_in segments b) j ≡ Some (Start thread) → (a ≡ b) × (i ≡ j)
id_once thread segments zero b i j few first second = cc
id_once thread segments (suc p) zero i j few first second = cc
id_once thread segments (suc p) (suc q) i j few first second =
    let same = place_once thread segments p q i j few first second in (ap suc same.0, same.1)

-- two starts of one thread in a window are one, where no thread is started twice
pub started_once : (thread before : ℕ) (traces : List LocalTraceForm) (first second : EventId) → in_all thread traces ≤ 1
    → event_in (map (segment_after before) traces) first ≡ Some (Start thread) → event_in (map (segment_after before) traces) second ≡ Some (Start thread)
    → first ≡ second
started_once thread before traces first second few one other =
    let more = window_more thread traces before in
    let all = all_less thread traces (suc before) in
    let same = id_once thread (map (segment_after before) traces) first.thread second.thread first.index second.index (omega (arith, more, all, few)) one other in
    λ i. record { thread = same.0 i; index = same.1 i }
