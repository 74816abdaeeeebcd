-- Each trace of the recording is cut to a trace.
use Rattle.std.proofs.Common.{◌≡◌, ◌∙◌, ◌<◌, ap, subst, length, get_or, sym, arith}
use Rattle.gp_trace.specs.Trace.{IsLocalTrace, LocalTraceForm}
use Rattle.gp_cut.specs.Cut.{cut_trace}
use Rattle.gp_cut.specs.Laws.{CanBeCut}
use Rattle.gp_cut_files.proofs.CutTraces.{cut_is_trace}
use Rattle.gp_cut_files.proofs.files.cut_files.Goals as goal

pub trace_file-requires-clause-rules : goal.trace_file-requires-clause-rules
trace_file-requires-clause-rules c =
    let r = c.args.recording.now in
    let part = c.args.part in
    let trace = c.trace-item.result in
    let i = c.loop-trace.trace-index in
    let can : CanBeCut r part.before part.count = record { rules = c.keeps_rules.ensures; there = c.requires.there; few = c.requires.few } in
    let is : trace ≡ get_or r.traces i trace = c.trace-item.is ∙ ap (λ traces. get_or traces i trace) c.traces-trace-items.ensures.value in
    let below : i < length r.traces = omega (arith, c.loop-trace-test.true, ap length c.traces-trace-items.ensures.value) in
    subst (λ (trace : LocalTraceForm). IsLocalTrace (cut_trace part.before part.count trace)) (sym is)
    (cut_is_trace c.cuts_are_recordings.ensures r part.before part.count i trace can below)
