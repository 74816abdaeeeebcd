-- What is due to task notify: an analysis of the recording with its properties in which each wake needs a signal, or the refusal of
-- too much work.
use Rattle.std.specs.Prelude.{ℕ, List, Result}
use Rattle.gp_analysis.specs.Tickets.{too_much}
use Rattle.gp_base.specs.Results.{and_then}
use Rattle.gp_notified.specs.declared.report.NotifyReport.{NotifyReport}
use Rattle.gp_notified.specs.Answered.{IsAnswered}
use Rattle.gp_notified.specs.Printed.{notified_lines}
use Rattle.gp_notified.specs.Question.{notified}
use Rattle.gp_notified.specs.Status.{notified_status}
use Rattle.gp_outside.specs.Folders.{File}
use Rattle.gp_property.specs.PropertyForm.{PropertyForm}
use Rattle.gp_text.specs.Spelling.{spelling}
use Rattle.gp_window.specs.RecordingForm.{RecordingForm}
use Rattle.gp_predict.specs.declared.analysing.Asked.{Asked}
use Rattle.gp_predict.specs.declared.listing.Listing.{Listing}
use Rattle.gp_predict.specs.declared.reply.Reply.{Reply}
use Rattle.gp_predict.specs.Listing.{listing_at}
use Rattle.gp_predict.specs.Refusal.{unless_too_much}
use Rattle.gp_predict.specs.Told.{Notified, Told}

-- an analysis with signals of a recording with its properties, by so many workers, each query with this budget
pub record NotifyingForm : Type 0 where
  pub recording : RecordingForm
  pub properties : List PropertyForm
  pub workers : ℕ
  pub budget : ℕ

-- an analysis with signals of what would be listed, as it is asked for
abbrev pub notifying_form : Listing → Asked → NotifyingForm
notifying_form listing asked = record {
  recording = listing.recording;
  properties = listing.properties;
  workers = asked.workers;
  budget = asked.budget;
}

-- an analysis with signals, where the instances that are asked, times the budget, are at most 1,000,000
abbrev pub notifying_of : Listing → Asked → Result NotifyingForm Reply
notifying_of listing asked =
    unless_too_much (notifying_form listing asked) asked.budget (too_much (notified listing.properties) listing.recording asked.budget)

-- what is due to task notify on the files of a folder
abbrev pub notifying_at : List File → List ℕ → Asked → Result NotifyingForm Reply
notifying_at files folder asked = and_then (listing_at files folder) (λ listing. notifying_of listing asked)

-- a report answers an analysis with signals
abbrev pub AnswersNotifying : NotifyingForm → NotifyReport → Type 0
AnswersNotifying analysis report = IsAnswered analysis.recording analysis.properties analysis.workers analysis.budget report

-- what a report with signals tells, which is kept: its text, and that it has an entry found or none
abbrev pub of_notified : NotifyReport → Told
of_notified report = record { status = notified_status report; text = spelling (notified_lines report); kept = Notified report }
