-- All parts are read, or are refused by a text.
use Rattle.std.proofs.Common.{ℕ, zero, suc, ◌+◌, ◌++◌, ◌==◌, List, [], ◌∷◌, find, length}
use Rattle.std.specs.List.{list_any}
use Rattle.gp_merge.specs.declared.merging.PartReport.{PartReport}
use Rattle.gp_outside.specs.Folders.{File}
use Rattle.gp_report.specs.ReportForm.{ReportForm}
use Rattle.gp_shard.specs.declared.shard.Shard.{Shard}
use Rattle.gp_window.specs.declared.file_name.FileName.{FileName}
use Rattle.gp_window.specs.declared.file_name.FileName.TheVariants as file
use Rattle.gp_window.specs.RecordingForm.{RecordingForm}
use Rattle.gp_shards.specs.Cutting.{shard_of}
use Rattle.gp_shards.specs.Merging.{are_other_parts, are_same_windows, content_in, folder_at, folder_behind, folder_fault, folders_from, in_order, is_of_part, is_other_budget, is_other_format, part_at, part_behind, parts_from, parts_in, parts_of, report_fault, report_in, shard_in}
use Rattle.gp_shards.specs.PartFolders.{PartFolderForm}
use Rattle.gp_shards.specs.Refusing.{content_refusal, missing, report_refusal, shard_refusal}
use Rattle.gp_due.specs.Saying.{OnlySays}
use Rattle.gp_due.proofs.Contents.{contents_say}
use Rattle.gp_due.proofs.Cuts.{MaySay, content_refused, either_wrong, is_wrong, report_refused, right, shard_refused, unless_says}
use Rattle.gp_due.proofs.Parts.{parts_say}
use Rattle.gp_due.proofs.Refusals.{IsAnswer, refused}
use Rattle.gp_due.proofs.Reports.{reports_say}
use Rattle.gp_due.proofs.Results as of

content_answers : (files : List File) (out : List ℕ) (name : FileName) → OnlySays IsAnswer (content_in files out name)
content_answers files out name = of.refused (content_refusal out) (content_refused out) (contents_say files out name)

shard_answers : (files : List File) (out : List ℕ) → OnlySays IsAnswer (shard_in files out)
shard_answers files out = of.in_turn (content_answers files out file.Shard) (λ bytes. of.refused (shard_refusal out) (shard_refused out) (parts_say bytes))

folder_says : (r : RecordingForm) (before : List PartFolderForm) (part : Shard) → MaySay (folder_fault r before part)
folder_says r before part =
    either_wrong (are_other_parts part.parts before) (is_wrong tt)
    (either_wrong (list_any (is_of_part part.part) before) (is_wrong tt)
    (either_wrong (are_same_windows part (shard_of r part.part part.parts)) right (is_wrong tt)))

behind_answers : (r : RecordingForm) (before : List PartFolderForm) (out : List ℕ) (part : Shard) → OnlySays IsAnswer (folder_behind r before out part)
behind_answers r before out part = unless_says out (folder_fault r before part) _ (folder_says r before part)

folder_answers : (files : List File) (r : RecordingForm) (before : List PartFolderForm) (out : List ℕ) → OnlySays IsAnswer (folder_at files r before out)
folder_answers files r before out = of.in_turn (shard_answers files out) (λ part. behind_answers r before out part)

folders_answer : (files : List File) (r : RecordingForm) (before : List PartFolderForm) (outs : List (List ℕ)) → OnlySays IsAnswer (folders_from files r before outs)
folders_answer files r before [] = of.value
folders_answer files r before (out ∷ outs) = of.in_turn (folder_answers files r before out) (λ folder. folders_answer files r (before ++ folder ∷ []) outs)

order_answers : (folders : List PartFolderForm) (part more : ℕ) → OnlySays IsAnswer (in_order folders part more)
order_answers folders part zero = of.value
order_answers folders part (suc more) =
    of.before_rest (of.unless_there (missing part) (find (is_of_part part) folders) refused) (order_answers folders (part + 1) more)

report_answers : (files : List File) (out : List ℕ) → OnlySays IsAnswer (report_in files out)
report_answers files out = of.in_turn (content_answers files out file.Report) (λ bytes. of.refused (report_refusal out) (report_refused out) (reports_say bytes))

report_says : (before : List PartReport) (part : Shard) (report : ReportForm) → MaySay (report_fault before part report)
report_says before part report =
    either_wrong (is_other_format report before) (is_wrong tt)
    (either_wrong (is_other_budget report before) (is_wrong tt)
    (either_wrong (length report.windows == part.count + 1) right (is_wrong tt)))

reported_answers : (before : List PartReport) (folder : PartFolderForm) (report : ReportForm) → OnlySays IsAnswer (part_behind before folder report)
reported_answers before folder report = unless_says folder.out (report_fault before folder.shard report) _ (report_says before folder.shard report)

part_answers : (files : List File) (before : List PartReport) (folder : PartFolderForm) → OnlySays IsAnswer (part_at files before folder)
part_answers files before folder = of.in_turn (report_answers files folder.out) (λ report. reported_answers before folder report)

parts_answer_from : (files : List File) (before : List PartReport) (folders : List PartFolderForm) → OnlySays IsAnswer (parts_from files before folders)
parts_answer_from files before [] = of.value
parts_answer_from files before (folder ∷ folders) = of.in_turn (part_answers files before folder) (λ part. parts_answer_from files (before ++ part ∷ []) folders)

pub parts_in_answer : (files : List File) (r : RecordingForm) (outs : List (List ℕ)) → OnlySays IsAnswer (parts_in files r outs)
parts_in_answer files r outs =
    of.in_turn (folders_answer files r [] outs) (λ folders.
    of.in_turn (order_answers folders 1 (parts_of folders)) (λ ordered.
    of.in_turn (parts_answer_from files [] ordered) (λ parts. of.value)))
