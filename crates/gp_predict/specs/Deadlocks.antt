-- What is due to task stuck: the deadlocks of the recording, or the refusal of too much work.
use Rattle.std.specs.Prelude.{ℕ, ◌≡◌, List, Result}
use Rattle.gp_analysis.specs.Tickets.{too_much}
use Rattle.gp_base.specs.Results.{and_then}
use Rattle.gp_deadlocks.specs.Question.{IsAnswered, deadlocks}
use Rattle.gp_outside.specs.Folders.{File}
use Rattle.gp_report.specs.ReportForm.{ReportForm}
use Rattle.gp_window.specs.RecordingForm.{RecordingForm}
use Rattle.gp_predict.specs.declared.analysing.Asked.{Asked}
use Rattle.gp_predict.specs.declared.deadlocks.DeadlockReport.{DeadlockReport}
use Rattle.gp_predict.specs.declared.reply.Reply.{Reply}
use Rattle.gp_predict.specs.Content.{recording_at}
use Rattle.gp_predict.specs.Refusal.{unless_too_much}
use Rattle.gp_predict.specs.Telling.{of_answers}
use Rattle.gp_predict.specs.Told.{Stuck, Told}

-- an analysis of a recording for deadlocks, by so many workers, each query with this budget
pub record DeadlocksForm : Type 0 where
  pub recording : RecordingForm
  pub workers : ℕ
  pub budget : ℕ

-- an analysis of a recording for deadlocks, as it is asked for
abbrev pub deadlocks_form : RecordingForm → Asked → DeadlocksForm
deadlocks_form recording asked = record { recording = recording; workers = asked.workers; budget = asked.budget }

-- an analysis for deadlocks, where the cycles that are asked, times the budget, are at most 1,000,000
abbrev pub deadlocks_of : RecordingForm → Asked → Result DeadlocksForm Reply
deadlocks_of recording asked = unless_too_much (deadlocks_form recording asked) asked.budget (too_much deadlocks recording asked.budget)

-- what is due to task stuck on the files of a folder
abbrev pub deadlocks_at : List File → List ℕ → Asked → Result DeadlocksForm Reply
deadlocks_at files folder asked = and_then (recording_at files folder) (λ recording. deadlocks_of recording asked)

-- a report of format 1 answers each cycle of waiting threads
pub record AnswersDeadlocks (analysis : DeadlocksForm) (report : ReportForm) : Type 0 where
  pub cycles : IsAnswered analysis.recording analysis.workers analysis.budget report
  pub format : report.format ≡ 1

-- what a report of deadlocks tells, which is kept
abbrev pub of_stuck : ReportForm → Told
of_stuck report = of_answers Stuck report

-- what the result of task stuck tells
abbrev pub of_deadlocks : DeadlockReport → Told
of_deadlocks found = of_stuck found.report
