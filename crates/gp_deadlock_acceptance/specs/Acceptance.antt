-- What task stuck tells, the checker accepts.
use Rattle.std.specs.Prelude.{ℕ}
use Rattle.gp_deadlock_checker.specs.Accepted.{IsAcceptedDeadlocks}
use Rattle.gp_deadlocks.specs.Question.{IsAnswered}
use Rattle.gp_report.specs.ReportForm.{ReportForm}
use Rattle.gp_window.specs.RecordingForm.{RecordingForm}

-- a report that answers the deadlocks of a recording is accepted, whatever its format, its workers and its budget
abbrev pub AnsweredDeadlocksAreAccepted : Type 0
AnsweredDeadlocksAreAccepted = (recording : RecordingForm) (count budget : ℕ) (report : ReportForm)
    → IsAnswered recording count budget report → IsAcceptedDeadlocks recording report
