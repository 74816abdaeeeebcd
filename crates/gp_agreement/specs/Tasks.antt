-- What the tasks tell of one recording never contradicts each other, and a budget that is enough decides in each.
use Rattle.std.specs.Prelude.{ℕ, List}
use Rattle.gp_property.specs.PropertyForm.{PropertyForm}
use Rattle.gp_report.specs.ReportForm.{ReportForm}
use Rattle.gp_window.specs.RecordingForm.{RecordingForm}
use Rattle.gp_patterns.specs.Answered.{IsAnswered}
use Rattle.gp_patterns.specs.Question.{patterns}
use Rattle.gp_resumed.specs.Answered.{IsAnswered as IsResumed}
use Rattle.gp_resumed.specs.Question.{resumed}
use Rattle.gp_deadlocks.specs.Question.{IsAnswered as IsStuckAnswered, deadlocks}
use Rattle.gp_notified.specs.declared.report.NotifyReport.{NotifyReport}
use Rattle.gp_notified.specs.Answered.{IsAnswered as IsNotified}
use Rattle.gp_notified.specs.Question.{notified}
use Rattle.gp_agreement.specs.Agreement.{Agree}
use Rattle.gp_agreement.specs.Enough.{Decides}

-- two reports of one recording agree, whatever their workers and their budgets: two of the same properties, two that go on from
-- any old reports, one of each, two of deadlocks, and two of the same properties with signals
pub record TasksAgree : Type 0 where
  pub analysed : (recording : RecordingForm) (properties : List PropertyForm) (count more budget larger : ℕ) (one other : ReportForm)
      → IsAnswered recording properties count budget one → IsAnswered recording properties more larger other → Agree one.windows other.windows
  pub kept : (recording : RecordingForm) (properties : List PropertyForm) (old older : ReportForm) (count more budget larger : ℕ) (one other : ReportForm)
      → IsResumed recording properties old count budget one → IsResumed recording properties older more larger other → Agree one.windows other.windows
  pub both : (recording : RecordingForm) (properties : List PropertyForm) (old : ReportForm) (count more budget larger : ℕ) (one other : ReportForm)
      → IsAnswered recording properties count budget one → IsResumed recording properties old more larger other → Agree one.windows other.windows
  pub stuck : (recording : RecordingForm) (count more budget larger : ℕ) (one other : ReportForm)
      → IsStuckAnswered recording count budget one → IsStuckAnswered recording more larger other → Agree one.windows other.windows
  pub signalled : (recording : RecordingForm) (properties : List PropertyForm) (count more budget larger : ℕ) (one other : NotifyReport)
      → IsNotified recording properties count budget one → IsNotified recording properties more larger other → Agree one.windows other.windows

-- in the report of a task no entry is undecided for which the budget is enough
pub record TasksDecide : Type 0 where
  pub analysed : (recording : RecordingForm) (properties : List PropertyForm) (count budget : ℕ) (report : ReportForm)
      → IsAnswered recording properties count budget report → Decides (patterns properties) recording budget report.windows
  pub kept : (recording : RecordingForm) (properties : List PropertyForm) (old : ReportForm) (count budget : ℕ) (report : ReportForm)
      → IsResumed recording properties old count budget report → Decides (resumed properties old) recording budget report.windows
  pub stuck : (recording : RecordingForm) (count budget : ℕ) (report : ReportForm)
      → IsStuckAnswered recording count budget report → Decides deadlocks recording budget report.windows
  pub signalled : (recording : RecordingForm) (properties : List PropertyForm) (count budget : ℕ) (report : NotifyReport)
      → IsNotified recording properties count budget report → Decides (notified properties) recording budget report.windows
