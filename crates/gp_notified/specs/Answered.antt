-- When a report says of a recording and its properties which instances are possible where each wake needs a signal.
use Rattle.std.specs.Prelude.{ℕ, ◌≡◌, List, [], All, length, map}
use Rattle.gp_property.specs.PropertyForm.{PropertyForm}
use Rattle.gp_report.specs.declared.record.WindowRecordOf.{WindowRecordOf}
use Rattle.gp_window.specs.RecordingForm.{RecordingForm}
use Rattle.gp_window.specs.WindowForm.{numbers_from}
use Rattle.gp_analysis.specs.Answered.{IsAnswered as AnswersQuestion}
use Rattle.gp_notified.specs.declared.paired.Paired.{Paired}
use Rattle.gp_notified.specs.declared.report.NotifyReport.{NotifyReport}
use Rattle.gp_notified.specs.Due.{unpaired_of}
use Rattle.gp_notified.specs.Question.{notified}

-- a report answers a recording and its properties, for so many workers and this budget: its windows have their numbers and answer
-- the question, by certificates that share no steps, and it names each window with a wake that has no sleep
pub record IsAnswered (recording : RecordingForm) (properties : List PropertyForm) (count budget : ℕ) (report : NotifyReport) : Type 0 where
  pub same_budget : report.budget ≡ budget
  pub numbered : map (λ (window : WindowRecordOf Paired). window.number) report.windows ≡ numbers_from 1 (length report.windows)
  pub windows : AnswersQuestion (notified properties) recording count budget report.windows
  pub alone : All (λ (window : WindowRecordOf Paired). window.shared ≡ []) report.windows
  pub unpaired : report.unpaired ≡ unpaired_of recording
