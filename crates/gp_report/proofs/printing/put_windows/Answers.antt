use Rattle.gp_writer.specs.LinesLaws.{one_more}
use Rattle.gp_report.specs.Printed.{window_lines_of}
use Rattle.gp_report.proofs.printing.put_windows.Goals as goal

pub loop-window-preserved : goal.loop-window-preserved
loop-window-preserved g c =
    rw c.in_ok-put_window.ensures
    (one_more (window_lines_of g.S.Shows.lines c.args.format) c.loop-window.text.items _ c.args.windows.now c.window-item.result c.loop-window.window-index c.loop-window-test.true c.window-item.is c.loop-window.invariant)
