-- The traces of a recording, cut one after another.
use Rattle.std.proofs.Common.{◌≡◌, subst, ℕ, ◌<◌, List, map, length, get_or, arith}
use Rattle.std.proofs.lemmas.List.{get_or-map, length-map}
use Rattle.gp_trace.specs.Trace.{IsLocalTrace, LocalTraceForm}
use Rattle.gp_window.specs.RecordingForm.{RecordingForm}
use Rattle.gp_cut.specs.Cut.{cut_trace}
use Rattle.gp_cut.specs.Laws.{CanBeCut, CutsAreRecordings}

-- each trace of a recording that can be cut is cut to a trace
pub cut_is_trace : CutsAreRecordings → (r : RecordingForm) (before count i : ℕ) (d : LocalTraceForm) → CanBeCut r before count → i < length r.traces
    → IsLocalTrace (cut_trace before count (get_or r.traces i d))
cut_is_trace cuts r before count i d can below =
    let cut : List LocalTraceForm = map (cut_trace before count) r.traces in
    let size : length cut ≡ length r.traces = length-map r.traces (cut_trace before count) in
    subst IsLocalTrace (get_or-map (cut_trace before count) r.traces i d (cut_trace before count d) below)
    ((cuts.rules r before count can).traces i (cut_trace before count d) (omega (arith, below, size)))
