use Rattle.gp_report.proofs.Tallies.{one_window}
use Rattle.gp_report.proofs.tally.tally_of.Goals as goal

pub loop-window-preserved : goal.loop-window-preserved
loop-window-preserved g c =
    rw (c.in_ok-tally.ensures, c.properties.ensures)
    (one_window c.loop-window.tally _ c.args.windows.now c.window-item.result c.loop-window.window-index c.loop-window-test.true c.window-item.is c.loop-window.invariant)
