-- All parts of a recording with their reports, or why there are none, as a function of the files.
use Rattle.std.specs.Prelude.{ℕ, zero, suc, ◌+◌, ◌++◌, ◌==◌, ◌&&◌, Bool, false, not, List, [], ◌∷◌, length, find, Option, None, Some, Result, Ok, if◌then◌else◌}
use Rattle.std.specs.List.{list_any}
use Rattle.gp_base.specs.Results.{and_then, or_refusal, or_refused, then_rest}
use Rattle.gp_cut.specs.declared.parting.Part.{Part}
use Rattle.gp_merge.specs.declared.merging.PartReport.{PartReport}
use Rattle.gp_merge.specs.Merge.{merged}
use Rattle.gp_outside.specs.Folders.{File}
use Rattle.gp_predict.specs.declared.reply.Reply.{Reply}
use Rattle.gp_report.specs.Reading.{report_of}
use Rattle.gp_report.specs.ReportForm.{ReportForm}
use Rattle.gp_shard.specs.declared.shard.Shard.{Shard}
use Rattle.gp_shard.specs.Reading.{shard_of_text}
use Rattle.gp_window.specs.Contents.{content_of}
use Rattle.gp_window.specs.declared.file_name.FileName.{FileName}
use Rattle.gp_window.specs.declared.file_name.FileName.TheVariants as file
use Rattle.gp_window.specs.RecordingForm.{RecordingForm}
use Rattle.gp_shards.specs.Cutting.{shard_of}
use Rattle.gp_shards.specs.PartFolders.{PartFolderForm}
use Rattle.gp_shards.specs.declared.merging.AllParts.{AllParts}
use Rattle.gp_shards.specs.declared.refusal.PartFault.{PartFault}
use Rattle.gp_shards.specs.declared.refusal.PartFault.TheVariants as wrong
use Rattle.gp_shards.specs.Refusing.{content_refusal, missing, report_refusal, shard_refusal, unless_wrong}

-- the bytes of a file in the folder of a part, where it is there and not too long
abbrev pub content_in : List File → List ℕ → FileName → Result (List ℕ) Reply
content_in files out name = or_refused (content_refusal out) (content_of files out name)

-- which part a folder says that it has
abbrev pub shard_in : List File → List ℕ → Result Shard Reply
shard_in files out = and_then (content_in files out file.Shard) (λ bytes. or_refused (shard_refusal out) (shard_of_text bytes))

-- whether the first of these folders, if there is one, is one of another number of parts
abbrev pub are_other_parts : ℕ → List PartFolderForm → Bool
are_other_parts parts [] = false
are_other_parts parts (first ∷ folders) = not (first.shard.parts == parts)

-- whether a folder has this part
abbrev pub is_of_part : ℕ → PartFolderForm → Bool
is_of_part part folder = folder.shard.part == part

-- whether two parts have the same windows of as many
abbrev pub are_same_windows : Shard → Shard → Bool
are_same_windows one other = (one.before == other.before) && (one.count == other.count) && (one.epochs == other.epochs)

-- why a folder with this part does not fit behind these folders, if so: it is one of another number of parts than the first of them, one of
-- them has it, or it has other windows than this part of the recording
abbrev pub folder_fault : RecordingForm → List PartFolderForm → Shard → Option PartFault
folder_fault r before shard =
    if are_other_parts shard.parts before then Some wrong.OtherParts
    else (if list_any (is_of_part shard.part) before then Some wrong.Twice
    else (if are_same_windows shard (shard_of r shard.part shard.parts) then None else Some wrong.OtherWindows))

-- a folder with this part behind these folders
abbrev pub folder_behind : RecordingForm → List PartFolderForm → List ℕ → Shard → Result PartFolderForm Reply
folder_behind r before out shard = unless_wrong out (folder_fault r before shard) (record { out = out; shard = shard })

-- a folder behind those before it
abbrev pub folder_at : List File → RecordingForm → List PartFolderForm → List ℕ → Result PartFolderForm Reply
folder_at files r before out = and_then (shard_in files out) (λ shard. folder_behind r before out shard)

-- these folders and then those of these names, in their order
abbrev pub folders_from : List File → RecordingForm → List PartFolderForm → List (List ℕ) → Result (List PartFolderForm) Reply
folders_from files r before [] = Ok before
folders_from files r before (out ∷ outs) =
    and_then (folder_at files r before out) (λ folder. folders_from files r (before ++ folder ∷ []) outs)

-- of how many parts these folders are
abbrev pub parts_of : List PartFolderForm → ℕ
parts_of [] = 0
parts_of (first ∷ folders) = first.shard.parts

-- the folders of so many parts, from this part on
abbrev pub in_order : List PartFolderForm → ℕ → ℕ → Result (List PartFolderForm) Reply
in_order folders part zero = Ok []
in_order folders part (suc more) =
    then_rest (or_refusal (missing part) (find (is_of_part part) folders)) (in_order folders (part + 1) more)

-- the folders of all parts, in the order of the parts
abbrev pub all_in_order : List PartFolderForm → Result (List PartFolderForm) Reply
all_in_order folders = in_order folders 1 (parts_of folders)

-- the report in the folder of a part
abbrev pub report_in : List File → List ℕ → Result ReportForm Reply
report_in files out = and_then (content_in files out file.Report) (λ bytes. or_refused (report_refusal out) (report_of bytes))

-- whether the report of the first of these parts, if there is one, has another format
abbrev pub is_other_format : ReportForm → List PartReport → Bool
is_other_format report [] = false
is_other_format report (first ∷ parts) = not (first.report.format == report.format)

-- or another budget
abbrev pub is_other_budget : ReportForm → List PartReport → Bool
is_other_budget report [] = false
is_other_budget report (first ∷ parts) = not (first.report.budget == report.budget)

-- the windows of a part
abbrev pub windows_in : Shard → Part
windows_in shard = record { before = shard.before; count = shard.count }

-- why this report of a part does not fit behind these parts, if so: it has another format than the report of the first of them, or another
-- budget, or it has not a window for each of the part and one for the stage
abbrev pub report_fault : List PartReport → Shard → ReportForm → Option PartFault
report_fault before shard report =
    if is_other_format report before then Some wrong.OtherFormat
    else (if is_other_budget report before then Some wrong.OtherBudget
    else (if length report.windows == shard.count + 1 then None else Some wrong.WindowCount))

-- the part in this folder with its report, behind these parts
abbrev pub part_behind : List PartReport → PartFolderForm → ReportForm → Result PartReport Reply
part_behind before folder report =
    unless_wrong folder.out (report_fault before folder.shard report) (record { part = windows_in folder.shard; report = report })

-- a part with the report in its folder, behind the parts before it
abbrev pub part_at : List File → List PartReport → PartFolderForm → Result PartReport Reply
part_at files before folder = and_then (report_in files folder.out) (λ report. part_behind before folder report)

-- these parts and then those in these folders, in their order
abbrev pub parts_from : List File → List PartReport → List PartFolderForm → Result (List PartReport) Reply
parts_from files before [] = Ok before
parts_from files before (folder ∷ folders) =
    and_then (part_at files before folder) (λ part. parts_from files (before ++ part ∷ []) folders)

-- all parts of a recording, out of these folders
abbrev pub parts_in : List File → RecordingForm → List (List ℕ) → Result AllParts Reply
parts_in files r outs =
    and_then (folders_from files r [] outs) (λ folders.
    and_then (all_in_order folders) (λ ordered.
    and_then (parts_from files [] ordered) (λ parts.
    Ok (record { folders = ordered; parts = parts }))))

-- the report of the whole, in the format and with the budget of the first part's
abbrev pub whole_of : List PartReport → ReportForm
whole_of [] = merged 1 1 []
whole_of (first ∷ parts) = merged first.report.format first.report.budget (first ∷ parts)
