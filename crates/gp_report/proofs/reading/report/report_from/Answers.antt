use Rattle.std.proofs.Common.{sym}
use Rattle.gp_report.proofs.Forms.{is_report}
use Rattle.gp_report.proofs.ReportRead.{report_made}
use Rattle.gp_report.proofs.reading.report.report_from.Goals as goal

pub new-requires : goal.new-requires
new-requires c =
    is_report c.one_spelling.ensures c.event_ids_read_exactly.ensures c.args.end c.args.lines.now _
    (report_made c.args.end c.args.lines.now _ _ _ _ c.in_ok-format.format c.in_ok-budget.budget c.in_ok-windows.windows
    c.in_ok-format.ensures.due c.in_ok-budget.ensures.due c.in_ok-windows.ensures (rw c.as_slice.ensures at c.in_ok-read_summary.ensures) (sym c.in_ok-finish.ensures))
