use Rattle.gp_overview.proofs.Counted.{one_window_named}
use Rattle.gp_overview.proofs.counting.counts_of.Goals as goal

pub loop-window-preserved : goal.loop-window-preserved
loop-window-preserved c =
    rw c.in_ok-counts.ensures
    (one_window_named c.args.name.now c.loop-window.counts _ c.args.windows.now c.window-item.result c.loop-window.window-index c.loop-window-test.true c.window-item.is c.loop-window.invariant)
