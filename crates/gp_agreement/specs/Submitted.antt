-- What a task tells of a recording and its properties, task check accepts, once it lies beside them.
use Rattle.std.specs.Prelude.{ℕ, ◌≡◌, ◌≤◌, List, Some, Ok, length}
use Rattle.gp_outside.specs.Folders.{File, file_named}
use Rattle.gp_window.specs.declared.file_name.FileName.TheVariants.{Report}
use Rattle.gp_window.specs.FileNames.{path_of}
use Rattle.gp_report.specs.Entries.{entries_of}
use Rattle.gp_report.specs.ReportForm.{ReportForm}
use Rattle.gp_report.specs.Telling.{IsWhole, without_records}
use Rattle.gp_checker.specs.declared.failure.Checked.{Checked}
use Rattle.gp_checker.specs.declared.failure.Checked.TheVariants.{Accepted}
use Rattle.gp_checker.specs.Accepted.{IsAccepted}
use Rattle.gp_compact.specs.Compact.{compacted}
use Rattle.gp_words.specs.declared.task.Task.TheVariants as task
use Rattle.gp_words.specs.Command.{CommandForm}
use Rattle.gp_predict.specs.declared.analysing.Asked.{Asked}
use Rattle.gp_predict.specs.declared.listing.Listing.{Listing}
use Rattle.gp_predict.specs.declared.submission.Submission.{Submission}
use Rattle.gp_predict.specs.Analysing.{Answers, analysis_form}
use Rattle.gp_predict.specs.Listing.{listing_at}
use Rattle.gp_predict.specs.Resuming.{AnswersResumption, ResumptionForm}
use Rattle.gp_predict.specs.Submission.{submission_at}
use Rattle.gp_predict.specs.Tasks.{Means, Verdict, task_at}
use Rattle.gp_predict.specs.Telling.{of_reply, report_text}
use Rattle.gp_predict.specs.Told.{Told}
use Rattle.gp_predict.specs.Verdict.{IsVerdict, accepted}

-- a folder holds a recording with properties, and beside them the text of a report of parts that fit their types, of at most
-- 67,108,864 bytes
pub record HoldsReport (files : List File) (folder : List ℕ) (listing : Listing) (report : ReportForm) : Type 0 where
  pub listed : listing_at files folder ≡ Ok listing
  pub whole : IsWhole report
  pub text : file_named files (path_of folder Report) ≡ Some (report_text report)
  pub short : length (report_text report) ≤ 67108864

-- what is read there: the report without its workers' records, of which its text tells nothing
abbrev pub submitted : Listing → ReportForm → Submission
submitted listing report = record { listing = listing; report = without_records report }

-- task check accepts what is read in a folder: its verdict on that is due, the report is accepted, no check says otherwise, and all
-- that may be told is that it is accepted, with the number of its entries
pub record IsAcceptedThere (files : List File) (folder : List ℕ) (listing : Listing) (report : ReportForm) : Type 0 where
  pub read : submission_at files folder ≡ Ok (submitted listing report)
  pub due : (command : CommandForm) → command.folder ≡ folder → task_at command task.Check files ≡ Ok (Verdict (submitted listing report))
  pub passes : IsAccepted listing.recording listing.properties (without_records report)
  pub verdict : (checked : Checked) → IsVerdict (submitted listing report) checked → checked ≡ Accepted
  pub told : (told : Told) → Means (Verdict (submitted listing report)) told → told ≡ of_reply (accepted (length (entries_of report.windows)))

-- so it does with what task analyse told, in either format; with the compact form of a report that is accepted, which task compact
-- tells; and with what task resume told, whatever it went on from
pub record ToldIsAccepted : Type 0 where
  pub analysed : (files : List File) (folder : List ℕ) (listing : Listing) (asked : Asked) (report : ReportForm)
      → Answers (analysis_form listing asked) report → HoldsReport files folder listing report → IsAcceptedThere files folder listing report
  pub shared : (files : List File) (folder : List ℕ) (submission : Submission)
      → IsAccepted submission.listing.recording submission.listing.properties submission.report
      → HoldsReport files folder submission.listing (compacted submission.listing.recording submission.report)
      → IsAcceptedThere files folder submission.listing (compacted submission.listing.recording submission.report)
  pub resumed : (files : List File) (folder : List ℕ) (resumption : ResumptionForm) (report : ReportForm)
      → AnswersResumption resumption report → HoldsReport files folder resumption.submission.listing report → IsAcceptedThere files folder resumption.submission.listing report
