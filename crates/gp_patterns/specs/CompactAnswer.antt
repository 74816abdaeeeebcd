-- What a kept report in the compact form says of a recording and its properties.
use Rattle.std.specs.Prelude.{ℕ, ◌≡◌, List}
use Rattle.gp_compact.specs.Compact.{compacted}
use Rattle.gp_patterns.specs.Answered.{IsAnswered}
use Rattle.gp_property.specs.PropertyForm.{PropertyForm}
use Rattle.gp_report.specs.Report.{IsReport}
use Rattle.gp_report.specs.ReportForm.{ReportForm}
use Rattle.gp_window.specs.RecordingForm.{RecordingForm}

-- a report is the compact form of one of format 1, which a text can tell, so that no steps are shared in it, and which answers a
-- recording and its properties, for so many workers and this budget
pub record IsCompactAnswer (recording : RecordingForm) (properties : List PropertyForm) (count budget : ℕ) (report : ReportForm) : Type 0 where
  pub answered : ReportForm
  pub plain : answered.format ≡ 1
  pub typed : IsReport answered
  pub instances : IsAnswered recording properties count budget answered
  pub made : report ≡ compacted recording answered
