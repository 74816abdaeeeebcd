-- The laws of reports of properties are those of their question.
use Rattle.std.specs.Prelude.{ℕ, ◌↔◌, List}
use Rattle.gp_property.specs.PropertyForm.{PropertyForm}
use Rattle.gp_report.specs.ReportForm.{ReportForm}
use Rattle.gp_window.specs.RecordingForm.{RecordingForm}
use Rattle.gp_patterns.specs.Agreement.{Agree as ReportsDoAgree, ReportsAgree}
use Rattle.gp_patterns.specs.Answered.{IsAnswered}
use Rattle.gp_patterns.specs.Enough.{Decides as DecidesReport, EnoughDecides as EnoughDecidesReport}
use Rattle.gp_patterns.specs.Question.{patterns}
use Rattle.gp_agreement.specs.Agreement.{Agree}
use Rattle.gp_agreement.specs.Enough.{Decides}

-- two reports agree exactly where their windows do; what decides in the windows of a report that answers its properties decides in
-- it; and so the two laws follow
pub record PatternsFollow : Type 0 where
  pub alike : (one other : ReportForm) → ReportsDoAgree one other ↔ Agree one.windows other.windows
  pub decided : (recording : RecordingForm) (properties : List PropertyForm) (count budget : ℕ) (report : ReportForm)
      → IsAnswered recording properties count budget report → Decides (patterns properties) recording budget report.windows → DecidesReport recording properties budget report
  pub agree : ReportsAgree
  pub decides : EnoughDecidesReport
