use Rattle.std.proofs.Common.{◌∙◌}
use Rattle.gp_trace.proofs.Texts.{later_text}
use Rattle.gp_trace.proofs.printing.put_later.Goals as goal

pub loop-index-preserved : goal.loop-index-preserved
loop-index-preserved c =
    rw (c.in_ok-put_exit.ensures, c.in_ok-put_events.ensures, c.as_slice.ensures, c.in_ok-put_keyword.ensures)
    (later_text c.loop-index.out.items c.args.exit_in c.loop-index.index c.args.segments.now c.index-segments-index.result c.loop-index-test.true c.index-segments-index.is)
    ∙ c.loop-index.invariant
