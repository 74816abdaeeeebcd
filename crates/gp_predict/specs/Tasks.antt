-- The tasks, a line each: what is due to a task on the files of a folder, and what may be told where that is due.
use Rattle.std.specs.Prelude.{◌≡◌, Bool, true, false, List, Result, Ok, Err}
use Rattle.gp_base.specs.Results.{and_then}
use Rattle.gp_checker.specs.declared.failure.Checked.{Checked}
use Rattle.gp_compact.specs.Compact.{compacted}
use Rattle.gp_linked.specs.declared.answer.LinkReport.{LinkReport}
use Rattle.gp_linked.specs.Report.{AreAnswered}
use Rattle.gp_notified.specs.declared.report.NotifyReport.{NotifyReport}
use Rattle.gp_outside.specs.Folders.{File}
use Rattle.gp_report.specs.ReportForm.{ReportForm}
use Rattle.gp_words.specs.declared.task.Task.{Task}
use Rattle.gp_words.specs.declared.task.Task.TheVariants as task
use Rattle.gp_words.specs.Command.{CommandForm}
use Rattle.gp_predict.specs.declared.reply.Reply.{Reply}
use Rattle.gp_predict.specs.declared.submission.Submission.{Submission}
use Rattle.gp_predict.specs.Analysing.{AnalysisForm, Answers, analysing_at, of_report}
use Rattle.gp_predict.specs.Asking.{asked_of, recipe_of}
use Rattle.gp_predict.specs.Compacting.{of_compact}
use Rattle.gp_predict.specs.Deadlocks.{AnswersDeadlocks, DeadlocksForm, deadlocks_at, of_stuck}
use Rattle.gp_predict.specs.Linking.{LinkingForm, linking_at, of_links}
use Rattle.gp_predict.specs.Listing.{list_at}
use Rattle.gp_predict.specs.Making.{made_answer}
use Rattle.gp_predict.specs.Notifying.{AnswersNotifying, NotifyingForm, notifying_at, of_notified}
use Rattle.gp_predict.specs.Replaying.{replay_at}
use Rattle.gp_predict.specs.Resuming.{AnswersResumption, ResumptionForm, resuming_at}
use Rattle.gp_predict.specs.Submission.{submission_at}
use Rattle.gp_predict.specs.Telling.{of_reply}
use Rattle.gp_predict.specs.Told.{Told}
use Rattle.gp_predict.specs.Verdict.{IsVerdict, verdict_on}

-- what is due: a text with its status, an analysis, the verdict on a report, a report in its compact form, a linking, an
-- analysis for deadlocks, an analysis with signals, or an analysis that keeps what still stands of an old report
pub data Expected : Type 0 where
  Text : Reply → Expected
  Analysis : AnalysisForm → Expected
  Verdict : Submission → Expected
  Compacted : Submission → Expected
  Linking : LinkingForm → Expected
  Deadlocks : DeadlocksForm → Expected
  Notifying : NotifyingForm → Expected
  Resumption : ResumptionForm → Expected

-- a text that is due, or the refusal that came before it
abbrev pub as_text : Result Reply Reply → Result Expected Reply
as_text due = and_then due (λ answer. Ok (Text answer))

-- an analysis, or the refusal that came before it
abbrev pub as_analysis : Result AnalysisForm Reply → Result Expected Reply
as_analysis due = and_then due (λ analysis. Ok (Analysis analysis))

-- the verdict on what was submitted, or the refusal that came before it
abbrev pub as_verdict : Result Submission Reply → Result Expected Reply
as_verdict due = and_then due (λ submission. Ok (Verdict submission))

-- the compact form of the report that was submitted, or the refusal that came before it
abbrev pub as_compacted : Result Submission Reply → Result Expected Reply
as_compacted due = and_then due (λ submission. Ok (Compacted submission))

-- a linking, or the refusal that came before it
abbrev pub as_linking : Result LinkingForm Reply → Result Expected Reply
as_linking due = and_then due (λ linking. Ok (Linking linking))

-- an analysis for deadlocks, or the refusal that came before it
abbrev pub as_deadlocks : Result DeadlocksForm Reply → Result Expected Reply
as_deadlocks due = and_then due (λ analysis. Ok (Deadlocks analysis))

-- an analysis with signals, or the refusal that came before it
abbrev pub as_notifying : Result NotifyingForm Reply → Result Expected Reply
as_notifying due = and_then due (λ analysis. Ok (Notifying analysis))

-- an analysis that keeps what still stands, or the refusal that came before it
abbrev pub as_resumption : Result ResumptionForm Reply → Result Expected Reply
as_resumption due = and_then due (λ resumption. Ok (Resumption resumption))

-- what is due to a task on the files of a folder
abbrev pub task_at : CommandForm → Task → List File → Result Expected Reply
task_at command task.Replay files = as_text (replay_at files command.folder)
task_at command task.List files = as_text (list_at files command.folder)
task_at command task.Analyse files = as_analysis (analysing_at files command.folder (asked_of command))
task_at command task.Check files = as_verdict (submission_at files command.folder)
task_at command task.Compact files = as_compacted (submission_at files command.folder)
task_at command task.Link files = as_linking (linking_at files command.folder command.budget)
task_at command task.Stuck files = as_deadlocks (deadlocks_at files command.folder (asked_of command))
task_at command task.Notify files = as_notifying (notifying_at files command.folder (asked_of command))
task_at command task.Resume files = as_resumption (resuming_at files command.folder (asked_of command))
task_at command task.Make files = Ok (Text (made_answer (recipe_of command)))

-- whether a task reads files: task make only writes them
abbrev pub reads_files : Task → Bool
reads_files task.Make = false
reads_files task.Replay = true
reads_files task.List = true
reads_files task.Analyse = true
reads_files task.Check = true
reads_files task.Compact = true
reads_files task.Link = true
reads_files task.Stuck = true
reads_files task.Notify = true
reads_files task.Resume = true

-- what was reached, or the refusal that came before it
abbrev pub either_expected : Result Expected Reply → Expected
either_expected (Ok expected) = expected
either_expected (Err refusal) = Text refusal

-- what may be told where this is due: a text; a report that answers the analysis; the verdict on a report; the compact form
-- of a report; a report that answers, of each window but the last, whether it is linked to the next; a report that answers
-- each cycle of waiting threads; a report that answers the analysis where each wake needs a signal; a report that keeps what
-- still stands of an old one and answers the rest
abbrev pub Means : Expected → Told → Type 0
Means (Text reply) told = told ≡ of_reply reply
Means (Analysis analysis) told = (report : ReportForm) × Answers analysis report × (told ≡ of_report report)
Means (Verdict submission) told = (checked : Checked) × IsVerdict submission checked × (told ≡ of_reply (verdict_on submission.report checked))
Means (Compacted submission) told = told ≡ of_compact (compacted submission.listing.recording submission.report)
Means (Linking linking) told = (report : LinkReport) × AreAnswered linking.recording linking.budget report × (told ≡ of_links report)
Means (Deadlocks analysis) told = (report : ReportForm) × AnswersDeadlocks analysis report × (told ≡ of_stuck report)
Means (Notifying analysis) told = (report : NotifyReport) × AnswersNotifying analysis report × (told ≡ of_notified report)
Means (Resumption resumption) told = (report : ReportForm) × AnswersResumption resumption report × (told ≡ of_report report)
