-- When a report says of a recording which of its windows are linked.
use Rattle.std.specs.Prelude.{ℕ, suc, ◌≡◌, length}
use Rattle.gp_window.specs.RecordingForm.{RecordingForm}
use Rattle.gp_linked.specs.declared.answer.LinkReport.{LinkReport}
use Rattle.gp_linked.specs.Answered.{AnswersFrom}
use Rattle.gp_linked.specs.Replayed.{ReplayFromStart}

-- a report has this budget, and one answer for each window of the recording but the last, in order; and where all windows
-- before one are linked, their schedules and any feasible one of that window replay from the recording's very start
pub record AreAnswered (r : RecordingForm) (budget : ℕ) (report : LinkReport) : Type 0 where
  pub budget_is : report.budget ≡ budget
  pub count : suc (length report.links) ≡ r.manifest.epochs
  pub answers : AnswersFrom r budget 1 report.links
  pub replays : ReplayFromStart r report.links
