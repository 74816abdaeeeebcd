-- The report that is told is the one of all parts of the recording, and is accepted there.
use Rattle.std.proofs.Common.{◌≡◌, refl, sym, ap, subst, ◌∙◌, ℕ, zero, suc, ◌≤◌, List, [], ◌∷◌, get_or, length, map, arith}
use Rattle.std.specs.Prelude.{All, IfOk, Option, None, Some, Result, Ok, Err}
use Rattle.std.specs.List.{AllByRecursion, range_with_len}
use Rattle.gp_base.specs.Results.{and_then, or_refused}
use Rattle.gp_checker.specs.Accepted.{IsAccepted}
use Rattle.gp_checker.specs.Sound.{AcceptedIsTrue}
use Rattle.gp_cut.specs.Parts.{PartsAreWhole, part_of, weights_of}
use Rattle.gp_merge.specs.Checking.{IsCheckedMerge, parts_alone}
use Rattle.gp_merge.specs.declared.checking.CheckedMerge.{CheckedMerge}
use Rattle.gp_merge.specs.declared.checking.CheckedMerge.TheVariants as check
use Rattle.gp_merge.specs.declared.merging.PartReport.{PartReport}
use Rattle.gp_merge.specs.Merge.{AreParts, IsPartReport, merged}
use Rattle.gp_outside.specs.Folders.{File}
use Rattle.gp_predict.specs.Analysing.{of_report}
use Rattle.gp_predict.specs.Content.{content_at, recording_at}
use Rattle.gp_predict.specs.declared.listing.Listing.{Listing}
use Rattle.gp_predict.specs.Listing.{listing_at, properties_at}
use Rattle.gp_predict.specs.Refusal.{content_refusal, properties_refusal, recording_refusal}
use Rattle.gp_predict.specs.Told.{Analysed, Nothing, Told}
use Rattle.gp_property.specs.Property.{IsProperty}
use Rattle.gp_property.specs.Reading.{properties_of}
use Rattle.gp_report.specs.ReportForm.{ReportForm}
use Rattle.gp_window.specs.Contents.{content_of}
use Rattle.gp_window.specs.declared.file_name.FileName.TheVariants as file
use Rattle.gp_window.specs.Recording.{recording_of}
use Rattle.gp_window.specs.RecordingForm.{IsRecording, RecordingForm}
use Rattle.gp_words.specs.Sharding.{MergeForm}
use Rattle.gp_shards.specs.Came.{CameTo}
use Rattle.gp_shards.specs.declared.merging.AllParts.{AllParts}
use Rattle.gp_shards.specs.declared.stop.ShardStop.{ShardStop}
use Rattle.gp_shards.specs.Due.{IsToldOf, Whole}
use Rattle.gp_shards.specs.Folders.{Agree, AreAllParts, AreFolders, AreReportsOf}
use Rattle.gp_shards.specs.Headline.{OfAllParts}
use Rattle.gp_shards.specs.Merging.{all_in_order, parts_in, parts_of, whole_of}
use Rattle.gp_shards.specs.PartFolders.{PartFolderForm}
use Rattle.gp_shards.proofs.Row.{all_in_row, ordered_windows}

-- a value that was given for no refusal was read
pub was_read : {A F E : Type 0} (refusal : F → E) (read : Result A F) (value : A) → or_refused refusal read ≡ Ok value → read ≡ Ok value
was_read refusal (Ok read) value is = let same : read ≡ value = cc in ap Ok same
was_read refusal (Err fault) value is = absurd (cc)

-- what came of two steps came of the first and then of the second
pub then_came : {A B E : Type 0} (first : Result A E) (next : A → Result B E) (value : B) → and_then first next ≡ Ok value → (given : A) × (first ≡ Ok given) × (next given ≡ Ok value)
then_came (Ok given) next value is = (given, refl, is)
then_came (Err refusal) next value is = absurd (cc)

-- what is told of a checked merge is its report where it is accepted
accepted_report : (listing : Listing) (all : AllParts) (report : ReportForm) (checked : CheckedMerge)
    → IsCheckedMerge listing.recording listing.properties (whole_of all.parts) (parts_alone all.parts) checked → IsToldOf all.folders checked (of_report report)
    → (report ≡ whole_of all.parts) × IsAccepted listing.recording listing.properties (whole_of all.parts)
accepted_report listing all report (check.Accepted own) is told =
    let kept : Analysed report ≡ Analysed own = ap (λ (t : Told). t.kept) told in
    let same : report ≡ own = cc in (same ∙ is.0, is.1)
accepted_report listing all report (check.Rejected failed) is told =
    let kept : Analysed report ≡ Nothing = ap (λ (t : Told). t.kept) told.2 in absurd (cc)

-- the report of all parts, where the files are told
module _ (law : AcceptedIsTrue) (merge : MergeForm) (listing : Listing) (all : AllParts) (rules : IsRecording listing.recording) (valid : AllByRecursion IsProperty listing.properties)
    (parts : AreAllParts listing.recording all) where
  of_all : (told : List File) (report : ReportForm) → listing_at told merge.folder ≡ Ok listing → parts_in told listing.recording merge.outs ≡ Ok all
      → CameTo of_report (Ok report) (Whole listing all) → OfAllParts merge (Some told) report
  of_all told report read came means =
      let first = then_came (recording_at told merge.folder) _ listing read in
      let second = then_came (properties_at told merge.folder) _ listing first.2 in
      let third = then_came (content_at told merge.folder file.Properties) _ second.0 second.1 in
      let given : record { recording = first.0; properties = second.0 } ≡ listing = cc in
      let is = accepted_report listing all report means.0 means.1 means.2 in
      let accepted = subst (IsAccepted listing.recording listing.properties) (sym is.0) is.1 in
      record {
        recording = listing.recording;
        whole = was_read recording_refusal (recording_of told merge.folder) first.0 first.1 ∙ ap (λ (own : Listing). Ok own.recording) given;
        text = third.0;
        props = was_read content_refusal (content_of told merge.folder file.Properties) third.0 third.1;
        properties = listing.properties;
        spelled = was_read properties_refusal (properties_of third.0) second.0 third.2 ∙ ap (λ (own : Listing). Ok own.properties) given;
        all = all;
        reports = came;
        row = parts.row;
        merged = is.0;
        accepted = accepted;
        sound = law listing.recording listing.properties report rules valid accepted;
      }

  pub of_all_parts : (files : Option (List File)) (result : Result ReportForm ShardStop) → ((told : List File) → files ≡ Some told → listing_at told merge.folder ≡ Ok listing)
      → ((told : List File) → files ≡ Some told → parts_in told listing.recording merge.outs ≡ Ok all) → CameTo of_report result (Whole listing all) → IfOk result (OfAllParts merge files)
  of_all_parts files (Err stop) read came means = tt
  of_all_parts None (Ok report) read came means = tt
  of_all_parts (Some told) (Ok report) read came means = of_all told report (read told refl) (came told refl) means

-- the reports in the folders of all parts, in their order, are those of all parts
pub all_parts : PartsAreWhole → (r : RecordingForm) (folders ordered : List PartFolderForm) (parts : List PartReport) → AreFolders r folders → 1 ≤ parts_of folders
    → all_in_order folders ≡ Ok ordered → AreReportsOf ordered parts → AreAllParts r (record { folders = ordered; parts = parts })
all_parts law r folders ordered parts each some came reports =
    let windows = reports.parts ∙ ordered_windows r (parts_of folders) folders each 1 (parts_of folders) ordered came in
    record {
      row = all_in_row law r (parts_of folders) parts some windows;
      some = some_of (parts_of folders) parts some windows;
      reports = reports;
    }
  where
    some_of : (count : ℕ) (parts : List PartReport) → 1 ≤ count → map (λ (one : PartReport). one.part) parts ≡ map (λ part. part_of part count (weights_of r)) (range_with_len 1 count) → 1 ≤ length parts
    some_of zero parts none is = absurd (omega (arith, none))
    some_of (suc more) [] none is = absurd (cc)
    some_of (suc more) (one ∷ parts) none is = omega arith

-- reports of all parts can be merged, in the format and with the budget of the first
pub can_merge : (r : RecordingForm) (all : AllParts) (first : PartReport) (format budget : ℕ) → AreAllParts r all → r.manifest.epochs ≤ 4096
    → first ≡ get_or all.parts 0 first → format ≡ first.report.format → budget ≡ first.report.budget → AreParts format budget all.parts
can_merge r all first format budget are few is same_format same_budget = record {
  last = r.manifest.epochs;
  row = are.row;
  some = are.some;
  few = few;
  reports = each all.parts are.reports.agree are.some is;
}
  where
    each : (parts : List PartReport) → Agree parts → 1 ≤ length parts → first ≡ get_or parts 0 first → All (IsPartReport format budget) parts
    each [] agree some there = absurd (omega (arith, some))
    each (one ∷ parts) agree some there =
        subst (λ k. All (IsPartReport k budget) (one ∷ parts)) (sym (same_format ∙ ap (λ (told : PartReport). told.report.format) there))
        (subst (λ k. All (IsPartReport one.report.format k) (one ∷ parts)) (sym (same_budget ∙ ap (λ (told : PartReport). told.report.budget) there)) agree)

-- and what they are merged to is the report of the whole
pub merged_whole : (parts : List PartReport) (first : PartReport) (format budget : ℕ) → 1 ≤ length parts
    → first ≡ get_or parts 0 first → format ≡ first.report.format → budget ≡ first.report.budget → merged format budget parts ≡ whole_of parts
merged_whole [] first format budget some is same_format same_budget = absurd (omega (arith, some))
merged_whole (one ∷ parts) first format budget some is same_format same_budget =
    ap (λ k. merged k budget (one ∷ parts)) (same_format ∙ ap (λ (told : PartReport). told.report.format) is)
    ∙ ap (λ k. merged one.report.format k (one ∷ parts)) (same_budget ∙ ap (λ (told : PartReport). told.report.budget) is)
