-- What holds of the lines of every report.
use Rattle.std.specs.Prelude.{◌≡◌, Ok}
use Rattle.std.specs.List.{AllByRecursion}
use Rattle.gp_text.specs.Lines.{lines_of}
use Rattle.gp_text.specs.Spelling.{IsPlainLine, numbered, spelling}
use Rattle.gp_report.specs.Printed.{report_lines}
use Rattle.gp_report.specs.Report.{IsReport}
use Rattle.gp_report.specs.ReportForm.{ReportForm}
use Rattle.gp_report.specs.Typed.{IsTyped}

-- each line of a report is plain, and its text is read as these lines, numbered from 1
pub record ReportsArePlain : Type 0 where
  pub plain : (report : ReportForm) → IsReport report → IsTyped report → AllByRecursion IsPlainLine (report_lines report)
  pub again : (report : ReportForm) → IsReport report → IsTyped report → lines_of (spelling (report_lines report)) ≡ Ok (numbered 1 (report_lines report))
