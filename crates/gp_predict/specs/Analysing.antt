-- What is due to task analyse: an analysis of the recording with its properties, or the refusal of too much work.
use Rattle.std.specs.Prelude.{ℕ, ◌*◌, ◌≡◌, ◌≤◌, List, Result, length}
use Rattle.gp_outside.specs.Folders.{File}
use Rattle.gp_compact.specs.Compact.{compacted}
use Rattle.gp_patterns.specs.Answered.{IsAnswered}
use Rattle.gp_patterns.specs.Tickets.{asked_total, too_much}
use Rattle.gp_report.specs.Report.{IsReport}
use Rattle.gp_report.specs.ReportForm.{ReportForm}
use Rattle.gp_base.specs.Results.{and_then}
use Rattle.gp_property.specs.PropertyForm.{PropertyForm}
use Rattle.gp_window.specs.RecordingForm.{RecordingForm}
use Rattle.gp_predict.specs.declared.reply.Reply.{Reply}
use Rattle.gp_predict.specs.declared.analysing.Asked.{Asked}
use Rattle.gp_predict.specs.declared.listing.Listing.{Listing}
use Rattle.gp_predict.specs.Listing.{listing_at}
use Rattle.gp_predict.specs.Refusal.{unless_too_much}
use Rattle.gp_predict.specs.Telling.{of_answers}
use Rattle.gp_predict.specs.Told.{Analysed, Told}

-- an analysis of a recording with its properties, by so many workers, each query with this budget; its report is to be
-- told in this format
pub record AnalysisForm : Type 0 where
  pub recording : RecordingForm
  pub properties : List PropertyForm
  pub workers : ℕ
  pub budget : ℕ
  pub format : ℕ

-- an analysis of what would be listed, as it is asked for
abbrev pub analysis_form : Listing → Asked → AnalysisForm
analysis_form listing asked = record {
  recording = listing.recording;
  properties = listing.properties;
  workers = asked.workers;
  budget = asked.budget;
  format = asked.format;
}

-- an analysis, where the instances that are asked, times the budget, are at most 1,000,000
abbrev pub analysis_of : Listing → Asked → Result AnalysisForm Reply
analysis_of listing asked =
    unless_too_much (analysis_form listing asked) asked.budget (too_much listing.recording listing.properties asked.budget)

-- what is due to task analyse on the files of a folder
abbrev pub analysing_at : List File → List ℕ → Asked → Result AnalysisForm Reply
analysing_at files folder asked = and_then (listing_at files folder) (λ listing. analysis_of listing asked)

-- the workers, the budget and the format are within their ranges
pub record IsAskable (asked : Asked) : Type 0 where
  pub some_workers : 1 ≤ asked.workers
  pub most_workers : asked.workers ≤ 16
  pub least_budget : 1 ≤ asked.budget
  pub most_budget : asked.budget ≤ 1000000
  pub first_format : 1 ≤ asked.format
  pub last_format : asked.format ≤ 2

-- at most 64 properties, and no more work than the limit
pub record CanBeAnalysed (listing : Listing) (asked : Asked) : Type 0 where
  pub few : length listing.properties ≤ 64
  pub askable : IsAskable asked
  pub limit : asked_total listing.recording listing.properties * asked.budget ≤ 1000000

-- a report has all answers to an analysis
abbrev pub HasAnswers : AnalysisForm → ReportForm → Type 0
HasAnswers analysis report = IsAnswered analysis.recording analysis.properties analysis.workers analysis.budget report

-- a report is the compact form of one of format 1, which a text can tell, so that no steps are shared in it, and which has all
-- answers to an analysis
pub record IsCompactOf (analysis : AnalysisForm) (report : ReportForm) : Type 0 where
  pub answered : ReportForm
  pub plain : answered.format ≡ 1
  pub typed : IsReport answered
  pub instances : HasAnswers analysis answered
  pub made : report ≡ compacted analysis.recording answered

-- a report answers an analysis: it has all answers, in the format that is asked for, and in format 2 it is the compact form
-- of one of format 1
pub record Answers (analysis : AnalysisForm) (report : ReportForm) : Type 0 where
  pub instances : HasAnswers analysis report
  pub format : report.format ≡ analysis.format
  pub compact : analysis.format ≡ 2 → IsCompactOf analysis report

-- what the report of an analysis tells, which is kept
abbrev pub of_report : ReportForm → Told
of_report report = of_answers Analysed report
