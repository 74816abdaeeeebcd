-- What checking a report of deadlocks says.
use Rattle.gp_checker.specs.declared.failure.Checked.{Checked}
use Rattle.gp_checker.specs.declared.failure.Checked.TheVariants.{Accepted, Rejected}
use Rattle.gp_report.specs.ReportForm.{ReportForm}
use Rattle.gp_window.specs.RecordingForm.{RecordingForm}
use Rattle.gp_deadlock_checker.specs.Accepted.{IsAcceptedDeadlocks}
use Rattle.gp_deadlock_checker.specs.Rejected.{IsRejectedDeadlocks}

-- the report is accepted, or it is rejected by its first failure
abbrev pub AreCheckedDeadlocks : RecordingForm → ReportForm → Checked → Type 0
AreCheckedDeadlocks recording report Accepted = IsAcceptedDeadlocks recording report
AreCheckedDeadlocks recording report (Rejected failure) = IsRejectedDeadlocks recording report failure
