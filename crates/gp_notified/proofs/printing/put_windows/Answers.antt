use Rattle.gp_writer.specs.LinesLaws.{one_more}
use Rattle.gp_notified.specs.Printed.{window_lines}
use Rattle.gp_notified.proofs.printing.put_windows.Goals as goal

pub loop-window-preserved : goal.loop-window-preserved
loop-window-preserved c =
    rw (c.in_ok-put_told.ensures, c.wake_of.ensures)
    (one_more (window_lines c.args.unpaired.now) c.loop-window.text.items _ c.args.windows.now c.window-item.result c.loop-window.window-index c.loop-window-test.true c.window-item.is c.loop-window.invariant)
