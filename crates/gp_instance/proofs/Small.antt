-- The threads of a window and their events can be numbered.
use Rattle.std.proofs.Common.{ℕ, zero, suc, ◌-◌, ◌<◌, ◌≤◌, ◌^◌, ap, sym, subst, List, [], ◌∷◌, length, length-append, arith}
use Rattle.std.specs.Prelude.{slice_get, unwrap_or}
use Rattle.std.proofs.lemmas.List.{length-map}
use Rattle.std.proofs.lemmas.List.Elements.{All-map, All-weaker}
use Rattle.gp_trace.specs.declared.event.Event.{Event}
use Rattle.gp_trace.specs.Trace.{IsLocalTrace, LocalTraceForm, in_order}
use Rattle.gp_window.specs.Holders.{segment_after}
use Rattle.gp_window.specs.WindowForm.{IsWindow, WindowForm}
use Rattle.gp_instance.specs.Search.{AreSmall}

-- a segment has at most as many events as all segments together
segment_fits : (segments : List (List Event)) (place : ℕ) → length (unwrap_or (slice_get segments place) []) ≤ length (in_order segments)
segment_fits [] place = omega arith
segment_fits (segment ∷ segments) zero = omega (arith, length-append segment (in_order segments))
segment_fits (segment ∷ segments) (suc place) = omega (arith, length-append segment (in_order segments), segment_fits segments place)

-- a segment of a trace is short
short_segment : (before : ℕ) (trace : LocalTraceForm) → IsLocalTrace trace → length (segment_after before trace) < 2 ^ 32
short_segment before trace rules = omega (arith, rules.few, segment_fits trace.segments before)

-- a window is small
pub small_window : (window : WindowForm) → IsWindow window → AreSmall window.segments
small_window window is =
    let segments = ap (λ (w : WindowForm). w.segments) is.is in
    subst AreSmall (sym segments) (record {
      threads = omega (arith, length-map is.recording.traces (segment_after (window.number - 1)), is.rules.count, is.rules.manifest.threads.1);
      events = All-map (λ segment. length segment < 2 ^ 32) (segment_after (window.number - 1)) is.recording.traces (All-weaker IsLocalTrace (λ trace. length (segment_after (window.number - 1) trace) < 2 ^ 32) (short_segment (window.number - 1)) is.recording.traces is.rules.traces);
    })
