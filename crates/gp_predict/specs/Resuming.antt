-- What is due to task resume: an analysis of the recording with its properties that keeps what still stands of the report in the
-- folder, or the refusal of too much work.
use Rattle.std.specs.Prelude.{ℕ, ◌≡◌, List, Result}
use Rattle.gp_base.specs.Results.{and_then}
use Rattle.gp_outside.specs.Folders.{File}
use Rattle.gp_report.specs.ReportForm.{ReportForm}
use Rattle.gp_resumed.specs.Answered.{IsAnswered}
use Rattle.gp_resumed.specs.Question.{too_much}
use Rattle.gp_predict.specs.declared.analysing.Asked.{Asked}
use Rattle.gp_predict.specs.declared.reply.Reply.{Reply}
use Rattle.gp_predict.specs.declared.submission.Submission.{Submission}
use Rattle.gp_predict.specs.Refusal.{unless_too_much}
use Rattle.gp_predict.specs.Submission.{submission_at}

-- an analysis of a recording with its properties that keeps what still stands of an old report, by so many workers, each query
-- with this budget
pub record ResumptionForm : Type 0 where
  pub submission : Submission
  pub workers : ℕ
  pub budget : ℕ

-- an analysis that keeps what still stands of what was submitted, as it is asked for
abbrev pub resumption_form : Submission → Asked → ResumptionForm
resumption_form submission asked = record { submission = submission; workers = asked.workers; budget = asked.budget }

-- such an analysis, where the instances that are not kept, times the budget, are at most 1,000,000
abbrev pub resumption_of : Submission → Asked → Result ResumptionForm Reply
resumption_of submission asked =
    unless_too_much (resumption_form submission asked) asked.budget
    (too_much submission.listing.recording submission.listing.properties submission.report asked.budget)

-- what is due to task resume on the files of a folder
abbrev pub resuming_at : List File → List ℕ → Asked → Result ResumptionForm Reply
resuming_at files folder asked = and_then (submission_at files folder) (λ submission. resumption_of submission asked)

-- a report of format 2 keeps what still stands and answers the rest
pub record AnswersResumption (resumption : ResumptionForm) (report : ReportForm) : Type 0 where
  pub instances : IsAnswered resumption.submission.listing.recording resumption.submission.listing.properties resumption.submission.report resumption.workers resumption.budget report
  pub format : report.format ≡ 2
