-- What a resumed report says: each instance is answered once, with evidence; those that are kept have their old answers and no
-- ticket, and the tickets are those of the others.
use Rattle.std.specs.Prelude.{ℕ, ◌≡◌, List}
use Rattle.std.specs.List.{AllZip}
use Rattle.gp_constraint.specs.Encoded.{base_due}
use Rattle.gp_property.specs.PropertyForm.{PropertyForm}
use Rattle.gp_report.specs.Records.{WindowRecord}
use Rattle.gp_report.specs.ReportForm.{ReportForm}
use Rattle.gp_window.specs.RecordingForm.{RecordingForm}
use Rattle.gp_window.specs.WindowForm.{WindowForm}
use Rattle.gp_window.specs.Windows.{all_windows}
use Rattle.gp_analysis.specs.Answered.{IsAnswered as AnswersQuestion}
use Rattle.gp_analysis.specs.Recorded.{shared_where}
use Rattle.gp_patterns.specs.Question.{left_out_in}
use Rattle.gp_resume.specs.Kept.{kept_shared}
use Rattle.gp_resumed.specs.Question.{resumed}

-- a record of a window shares the steps that are kept of an old report; of a window that is too large, none
abbrev pub SharesKept : ReportForm → WindowForm → WindowRecord → Type 0
SharesKept old window told = told.shared ≡ shared_where (left_out_in (base_due window)) (kept_shared old window)

-- a report answers a recording and its properties and keeps what still stands of an old one, for so many workers and this budget
pub record IsAnswered (recording : RecordingForm) (properties : List PropertyForm) (old : ReportForm) (count budget : ℕ) (report : ReportForm) : Type 0 where
  pub same_budget : report.budget ≡ budget
  pub windows : AnswersQuestion (resumed properties old) recording count budget report.windows
  pub shared : AllZip (SharesKept old) (all_windows recording) report.windows
