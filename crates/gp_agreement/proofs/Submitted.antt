-- What a task tells, task check accepts.
use Rattle.std.proofs.Common.{◌≡◌, refl, ap, ◌∙◌, ℕ, ◌++◌, Bool, List, [], ◌∷◌, Result, Ok, Err, length, map, if◌then◌else◌}
use Rattle.std.specs.List.{AllZip}
use Rattle.std.proofs.lemmas.Bool.{le-ltb}
use Rattle.gp_base.specs.Results.{and_then, or_refused}
use Rattle.gp_outside.specs.Folders.{File}
use Rattle.gp_window.specs.declared.content.ContentFault.{ContentFault}
use Rattle.gp_window.specs.declared.content.ContentFault.TheVariants.{TooLong}
use Rattle.gp_window.specs.declared.file_name.FileName.TheVariants.{Report}
use Rattle.gp_window.specs.Contents.{content_of, content_where}
use Rattle.gp_window.specs.WindowForm.{WindowForm}
use Rattle.gp_window.specs.Windows.{all_windows}
use Rattle.gp_property.specs.PropertyForm.{PropertyForm}
use Rattle.gp_report.specs.Entries.{entries_among, entries_of, properties_in}
use Rattle.gp_report.specs.Reading.{report_of}
use Rattle.gp_report.specs.Records.{Entry, WindowRecord}
use Rattle.gp_report.specs.ReportForm.{ReportForm}
use Rattle.gp_report.specs.Telling.{ReportsReadAgain, window_without_records, without_records}
use Rattle.gp_checker.specs.declared.failure.Checked.{Checked}
use Rattle.gp_checker.specs.declared.failure.Checked.TheVariants.{Accepted, Rejected}
use Rattle.gp_checker.specs.Accepted.{AcceptsWindow, IsAccepted}
use Rattle.gp_checker.specs.Checked.{ChecksAreExact}
use Rattle.gp_compact.specs.Compact.{CompactKeepsAcceptance, compacted}
use Rattle.gp_acceptance.specs.Acceptance.{AnsweredIsAccepted, ResumedIsAccepted}
use Rattle.gp_predict.specs.declared.listing.Listing.{Listing}
use Rattle.gp_predict.specs.declared.reply.Reply.{Reply}
use Rattle.gp_predict.specs.Refusal.{content_refusal, report_refusal}
use Rattle.gp_predict.specs.Submission.{report_at, submission_at}
use Rattle.gp_predict.specs.Tasks.{as_verdict}
use Rattle.gp_predict.specs.Telling.{of_reply, report_text}
use Rattle.gp_predict.specs.Verdict.{IsVerdict, accepted, verdict_on}
use Rattle.gp_agreement.specs.Submitted.{HoldsReport, IsAcceptedThere, ToldIsAccepted, submitted}

-- the records of workers are in no entry
bare_entries : (windows : List WindowRecord) → entries_of (map window_without_records windows) ≡ entries_of windows
bare_entries [] = refl
bare_entries (window ∷ windows) = ap (λ (entries : List Entry). entries_among (properties_in window.body) ++ entries) (bare_entries windows)

-- and nothing is accepted of them
bare_accepted : (properties : List PropertyForm) (budget : ℕ) (windows : List WindowForm) (records : List WindowRecord) → AllZip (AcceptsWindow properties budget) windows records
    → AllZip (AcceptsWindow properties budget) windows (map window_without_records records)
bare_accepted properties budget [] [] are = are
bare_accepted properties budget [] (one ∷ records) are = absurd are
bare_accepted properties budget (window ∷ windows) [] are = absurd are
bare_accepted properties budget (window ∷ windows) (one ∷ records) are = (are.0, bare_accepted properties budget windows records are.1)

module _ (files : List File) (folder : List ℕ) (listing : Listing) (report : ReportForm) (holds : HoldsReport files folder listing report) where
  content_there : content_of files folder Report ≡ Ok (report_text report)
  content_there =
      ap (content_where Report) holds.text
      ∙ ap (λ (long : Bool). if long then Err (TooLong Report) else Ok (report_text report)) (le-ltb 67108864 (length (report_text report)) holds.short)

  report_there : ReportsReadAgain → report_at files folder ≡ Ok (without_records report)
  report_there reads =
      ap (λ (found : Result (List ℕ) ContentFault). and_then (or_refused content_refusal found) (λ bytes. or_refused report_refusal (report_of bytes))) content_there
      ∙ ap (or_refused report_refusal) (reads.again report holds.whole)

  read_there : ReportsReadAgain → submission_at files folder ≡ Ok (submitted listing report)
  read_there reads =
      ap (λ (found : Result Listing Reply). and_then found (λ one. and_then (report_at files folder) (λ own. Ok (record { listing = one; report = own })))) holds.listed
      ∙ ap (λ (found : Result ReportForm Reply). and_then found (λ own. Ok (record { listing = listing; report = own }))) (report_there reads)

  verdict_there : ChecksAreExact → IsAccepted listing.recording listing.properties (without_records report) → (checked : Checked) → IsVerdict (submitted listing report) checked → checked ≡ Accepted
  verdict_there exact is Accepted verdict = refl
  verdict_there exact is (Rejected failure) verdict = absurd (exact.not_both listing.recording listing.properties (without_records report) failure is verdict.checks)

  accepted_there : ReportsReadAgain → ChecksAreExact → IsAccepted listing.recording listing.properties report → IsAcceptedThere files folder listing report
  accepted_there reads exact is =
      let bare = bare_accepted listing.properties report.budget (all_windows listing.recording) report.windows is in
      record {
        read = read_there reads;
        due = λ command same. ap (λ (own : List ℕ). as_verdict (submission_at files own)) same ∙ ap as_verdict (read_there reads);
        passes = bare;
        verdict = verdict_there exact bare;
        told = λ told means.
            means.2 ∙ ap (λ (checked : Checked). of_reply (verdict_on (without_records report) checked)) (verdict_there exact bare means.0 means.1)
            ∙ ap (λ (entries : List Entry). of_reply (accepted (length entries))) (bare_entries report.windows);
      }

pub told_accepted : ReportsReadAgain → ChecksAreExact → CompactKeepsAcceptance → AnsweredIsAccepted → ResumedIsAccepted → ToldIsAccepted
told_accepted reads exact keeps answered resumed = record {
  analysed = λ files folder listing asked report is holds.
      accepted_there files folder listing report holds reads exact (answered listing.recording listing.properties asked.workers asked.budget report is.instances);
  shared = λ files folder submission is holds.
      let listing = submission.listing in
      accepted_there files folder listing (compacted listing.recording submission.report) holds reads exact ((keeps listing.recording listing.properties submission.report).1 is);
  resumed = λ files folder resumption report is holds.
      let own = resumption.submission in
      accepted_there files folder own.listing report holds reads exact (resumed own.listing.recording own.listing.properties own.report resumption.workers resumption.budget report is.instances);
}
