use Rattle.std.proofs.Common.{All}
use Rattle.gp_report.specs.Records.{Entry, WindowRecord}
use Rattle.gp_report.specs.Entries.{entries_among, properties_in}
use Rattle.gp_report.specs.Telling.{HasClause, HasClauses}
use Rattle.gp_report.specs.Typed.{IsTypedWindow}
use Rattle.gp_report.proofs.Seen.{one_part_seen, one_seen}
use Rattle.gp_report.proofs.fit.windows_fit.Goals as goal

pub loop-window-preserved : goal.loop-window-preserved
loop-window-preserved c = (
  one_seen IsTypedWindow c.args.windows.now c.window-item.result c.loop-window.window-index c.loop-window-test.true c.window-item.is c.window_fits.ensures.typed c.loop-window.invariant.0,
  one_seen (λ (window : WindowRecord). All HasClause window.shared) c.args.windows.now c.window-item.result c.loop-window.window-index c.loop-window-test.true c.window-item.is
      c.window_fits.ensures.shared c.loop-window.invariant.1,
  one_part_seen (λ (entry : Entry). HasClauses entry.answer) (λ (window : WindowRecord). entries_among (properties_in window.body)) c.args.windows.now c.window-item.result
      c.loop-window.window-index c.loop-window-test.true c.window-item.is c.window_fits.ensures.answers c.loop-window.invariant.2,
)
