-- What tasks check, compact and resume read: a report beside the recording and its properties, whoever wrote it.
use Rattle.std.specs.Prelude.{ℕ, ◌≤◌, List, Result, Ok, length}
use Rattle.std.specs.List.{AllByRecursion}
use Rattle.gp_outside.specs.Folders.{File}
use Rattle.gp_property.specs.Property.{IsProperty}
use Rattle.gp_report.specs.Reading.{report_of}
use Rattle.gp_report.specs.ReportForm.{ReportForm}
use Rattle.gp_base.specs.Results.{and_then, or_refused}
use Rattle.gp_window.specs.declared.file_name.FileName.TheVariants.{Report}
use Rattle.gp_predict.specs.declared.reply.Reply.{Reply}
use Rattle.gp_predict.specs.declared.submission.Submission.{Submission}
use Rattle.gp_predict.specs.Content.{content_at}
use Rattle.gp_predict.specs.Listing.{listing_at}
use Rattle.gp_predict.specs.Refusal.{report_refusal}

-- the report in the folder
abbrev pub report_at : List File → List ℕ → Result ReportForm Reply
report_at files folder = and_then (content_at files folder Report) (λ bytes. or_refused report_refusal (report_of bytes))

-- the recording, the properties and the report in the folder
abbrev pub submission_at : List File → List ℕ → Result Submission Reply
submission_at files folder =
    and_then (listing_at files folder) (λ listing.
    and_then (report_at files folder) (λ report.
    Ok (record { listing = listing; report = report })))

-- at most 64 properties, each of the language
pub record CanBeChecked (submission : Submission) : Type 0 where
  pub few : length submission.listing.properties ≤ 64
  pub valid : AllByRecursion IsProperty submission.listing.properties
