use Rattle.std.proofs.Common.{◌∙◌, sym}
use Rattle.gp_trace.proofs.Stood.{one_more}
use Rattle.gp_trace.proofs.standing.after_segments.Goals as goal

pub loop-segment-preserved : goal.loop-segment-preserved
loop-segment-preserved c =
    rw (c.in_ok-standing.ensures, c.as_slice.ensures)
    (sym (one_more c.loop-segment.standing c.args.segments.now c.loop-segment.segment-index c.segment-item.result c.loop-segment-test.true c.segment-item.is))
    ∙ c.loop-segment.invariant
