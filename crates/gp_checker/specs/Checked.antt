-- What checking a report says.
use Rattle.std.specs.Prelude.{◌≡◌, List}
use Rattle.gp_property.specs.PropertyForm.{PropertyForm}
use Rattle.gp_report.specs.ReportForm.{ReportForm}
use Rattle.gp_window.specs.RecordingForm.{RecordingForm}
use Rattle.gp_checker.specs.declared.failure.Checked.{Checked}
use Rattle.gp_checker.specs.declared.failure.Checked.TheVariants.{Accepted, Rejected}
use Rattle.gp_checker.specs.declared.failure.Failure.{Failure}
use Rattle.gp_checker.specs.Accepted.{IsAccepted}
use Rattle.gp_checker.specs.Rejected.{IsRejected}

-- the report is accepted, or it is rejected by its first failure
abbrev pub IsChecked : RecordingForm → List PropertyForm → ReportForm → Checked → Type 0
IsChecked recording properties report Accepted = IsAccepted recording properties report
IsChecked recording properties report (Rejected failure) = IsRejected recording properties report failure

-- no report is both accepted and rejected, and none has two first failures
pub record ChecksAreExact : Type 0 where
  pub not_both : (recording : RecordingForm) (properties : List PropertyForm) (report : ReportForm) (failure : Failure)
      → IsAccepted recording properties report → IsRejected recording properties report failure → ⊥
  pub one : (recording : RecordingForm) (properties : List PropertyForm) (report : ReportForm) (failure other : Failure)
      → IsRejected recording properties report failure → IsRejected recording properties report other → failure ≡ other
