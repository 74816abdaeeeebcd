-- Laws: a segment of a window is not too large.
use Rattle.std.proofs.Common.{ℕ, zero, suc, ◌≡◌, ◌-◌, ◌<◌, ◌≤◌, ◌^◌, ap, sym, subst, List, [], ◌∷◌, length, length-append, map, arith, Bor}
use Rattle.std.specs.Prelude.{All, Option, Some, None, OnSome, option_copied, slice_get, unwrap_or}
use Rattle.std.proofs.lemmas.Option.{slice_get_within}
use Rattle.gp_trace.specs.Trace.{IsLocalTrace, LocalTraceForm, in_order}
use Rattle.gp_trace.specs.declared.event.Event.{Event}
use Rattle.gp_window.specs.Events.{event_at, segment_of, size_of}
use Rattle.gp_window.specs.Holders.{segment_after}
use Rattle.gp_window.specs.WindowForm.{IsWindow, WindowForm}
use Rattle.gp_window.specs.declared.schedule.EventId.{EventId}

-- a segment has at most as many events as all segments together
segment_fits : (segments : List (List Event)) (place : ℕ) → length (unwrap_or (slice_get segments place) []) ≤ length (in_order segments)
segment_fits [] place = omega arith
segment_fits (segment ∷ segments) zero = omega (arith, length-append segment (in_order segments))
segment_fits (segment ∷ segments) (suc place) = omega (arith, length-append segment (in_order segments), segment_fits segments place)

-- a segment of traces that keep their rules
small_among : (before : ℕ) (traces : List LocalTraceForm) (place : ℕ)
    → All IsLocalTrace traces → length (unwrap_or (slice_get (map (segment_after before) traces) place) []) < 2 ^ 32
small_among before [] place rules = omega arith
small_among before (trace ∷ traces) zero rules =
    let few : length (in_order trace.segments) < 2 ^ 32 = (rules 0 trace (omega arith)).few in
    omega (arith, few, segment_fits trace.segments before)
small_among before (trace ∷ traces) (suc place) rules =
    small_among before traces place (λ k d below. rules (suc k) d (omega arith))

-- a segment of a window
small_segment : (window : WindowForm) (thread : ℕ) → IsWindow window → size_of window thread < 2 ^ 32
small_segment window zero is = omega arith
small_segment window (suc place) is =
    let same : window.segments ≡ map (segment_after (window.number - 1)) is.recording.traces = ap (λ (w : WindowForm). w.segments) is.is in
    subst (λ segments. length (unwrap_or (slice_get segments place) []) < 2 ^ 32) (sym same)
    (small_among (window.number - 1) is.recording.traces place is.rules.traces)

-- an event that is there is within its segment
pub event_inside : (window : WindowForm) (id : EventId) (event : Event) → event_at window id ≡ Some event → id.index < size_of window id.thread
event_inside window id event e = slice_get_within (segment_of window id.thread) id.index event e

-- one event more than the index of an event can be counted
pub small_index : (window : WindowForm) (id : EventId) (event : Event)
    → IsWindow window → event_at window id ≡ Some event → id.index < 2 ^ 32 - 1
small_index window id event is e =
    let small = small_segment window id.thread is in
    let inside = event_inside window id event e in
    omega (arith, small, inside)

-- the same of an event that was looked up
pub found_is_small : (window : WindowForm) (id : EventId) (found : Option (Bor Event))
    → IsWindow window → option_copied found ≡ event_at window id → OnSome found (id.index < 2 ^ 32 - 1)
found_is_small window id None is e = tt
found_is_small window id (Some event) is e = small_index window id event.now is (sym e)
