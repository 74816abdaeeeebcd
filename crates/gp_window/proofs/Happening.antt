-- What holds of each event of each trace holds of each event of a window.
use Rattle.std.proofs.Common.{◌≡◌, subst, ℕ, zero, suc, ◌+◌, ◌<◌, ◌≤◌, List, [], ◌∷◌, length, length-append, map, arith}
use Rattle.std.specs.Prelude.{Some, slice_get, unwrap_or}
use Rattle.std.specs.List.{AllByRecursion}
use Rattle.gp_trace.specs.declared.event.Event.{Event}
use Rattle.gp_trace.specs.Trace.{in_order, LocalTraceForm}
use Rattle.gp_base.specs.ListLaws.{contains_got, recursion_at, recursion_parts}
use Rattle.gp_window.specs.declared.schedule.EventId.{EventId}
use Rattle.gp_window.specs.Events.{event_in, segment_in}
use Rattle.gp_window.specs.Holders.{segment_after}
use Rattle.gp_window.specs.RecordingForm.{AreNumbered}

in_segment : (P : Event → Type 0) (segments : List (List Event)) (before : ℕ) → AllByRecursion P (in_order segments)
    → AllByRecursion P (unwrap_or (slice_get segments before) [])
in_segment P [] before all = tt
in_segment P (segment ∷ segments) zero all = (recursion_parts P segment (in_order segments) all).0
in_segment P (segment ∷ segments) (suc before) all = in_segment P segments before (recursion_parts P segment (in_order segments) all).1

-- what holds of each event of a trace, by the number of its thread
abbrev pub OfEach : (ℕ → Event → Type 0) → List LocalTraceForm → Type 0
OfEach P traces = AllByRecursion (λ trace. AllByRecursion (P trace.thread) (in_order trace.segments)) traces

in_place : (P : ℕ → Event → Type 0) (epochs n before : ℕ) (traces : List LocalTraceForm) (place : ℕ) → AreNumbered epochs n traces → OfEach P traces
    → AllByRecursion (P (n + place)) (unwrap_or (slice_get (map (segment_after before) traces) place) [])
in_place P epochs n before [] place numbered all = tt
in_place P epochs n before (trace ∷ traces) zero numbered all =
    let number : trace.thread ≡ n = numbered.0 in
    let same : trace.thread ≡ n + 0 = omega (arith, number) in
    subst (λ t. AllByRecursion (P t) (segment_after before trace)) same (in_segment (P trace.thread) trace.segments before all.0)
in_place P epochs n before (trace ∷ traces) (suc place) numbered all =
    let same : n + 1 + place ≡ n + suc place = omega arith in
    subst (λ t. AllByRecursion (P t) (unwrap_or (slice_get (map (segment_after before) traces) place) [])) same
    (in_place P epochs (n + 1) before traces place numbered.2 all.1)

in_thread : (P : ℕ → Event → Type 0) (epochs before thread : ℕ) (traces : List LocalTraceForm) → AreNumbered epochs 1 traces → OfEach P traces
    → AllByRecursion (P thread) (segment_in (map (segment_after before) traces) thread)
in_thread P epochs before zero traces numbered all = tt
in_thread P epochs before (suc place) traces numbered all =
    let same : 1 + place ≡ suc place = omega arith in
    subst (λ t. AllByRecursion (P t) (unwrap_or (slice_get (map (segment_after before) traces) place) [])) same
    (in_place P epochs 1 before traces place numbered all)

pub in_window : (P : ℕ → Event → Type 0) (epochs before : ℕ) (traces : List LocalTraceForm) (id : EventId) (event : Event) → AreNumbered epochs 1 traces
    → OfEach P traces → event_in (map (segment_after before) traces) id ≡ Some event → P id.thread event
in_window P epochs before traces id event numbered all e =
    let segment : List Event = segment_in (map (segment_after before) traces) id.thread in
    recursion_at (P id.thread) segment event (in_thread P epochs before id.thread traces numbered all) (contains_got segment id.index event e)

-- a segment is no longer than the whole trace
segment_short : (segments : List (List Event)) (before : ℕ) → length (unwrap_or (slice_get segments before) []) ≤ length (in_order segments)
segment_short [] before = omega arith
segment_short (segment ∷ segments) zero = let all = length-append segment (in_order segments) in omega (arith, all)
segment_short (segment ∷ segments) (suc before) =
    let all = length-append segment (in_order segments) in
    let rest = segment_short segments before in
    omega (arith, all, rest)

place_short : (before most : ℕ) (traces : List LocalTraceForm) (place : ℕ) → 0 < most → AllByRecursion (λ trace. length (in_order trace.segments) < most) traces
    → length (unwrap_or (slice_get (map (segment_after before) traces) place) []) < most
place_short before most [] place some all = some
place_short before most (trace ∷ traces) zero some all =
    let short = segment_short trace.segments before in
    let few : length (in_order trace.segments) < most = all.0 in
    omega (arith, short, few)
place_short before most (trace ∷ traces) (suc place) some all = place_short before most traces place some all.1

-- a segment of a window is no longer than its trace may be
pub segments_short : (before most thread : ℕ) (traces : List LocalTraceForm) → 0 < most → AllByRecursion (λ trace. length (in_order trace.segments) < most) traces
    → length (segment_in (map (segment_after before) traces) thread) < most
segments_short before most zero traces some all = some
segments_short before most (suc place) traces some all = place_short before most traces place some all
