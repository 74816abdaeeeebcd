-- Folders and reports that fit together, and one more.
use Rattle.std.proofs.Common.{◌≤◌, List, [], ◌∷◌, ◌++◌, length, arith}
use Rattle.std.proofs.lemmas.List.Elements.{All-head, All-nil, All-push}
use Rattle.gp_merge.specs.declared.merging.PartReport.{PartReport}
use Rattle.gp_merge.specs.Merge.{IsPartReport}
use Rattle.gp_window.specs.RecordingForm.{RecordingForm}
use Rattle.gp_shards.specs.Folders.{Agree, AgreesBehind, AreFolders, FitsBehind, IsOfParts}
use Rattle.gp_shards.specs.Merging.{parts_of}
use Rattle.gp_shards.specs.PartFolders.{PartFolderForm}

-- folders that fit, and one more that does
pub folders_grow : (r : RecordingForm) (before : List PartFolderForm) (folder : PartFolderForm) → AreFolders r before → FitsBehind r before folder → AreFolders r (before ++ folder ∷ [])
folders_grow r [] folder each fits = All-push (IsOfParts r folder.shard.parts) [] folder (All-nil (IsOfParts r folder.shard.parts)) fits
folders_grow r (first ∷ before) folder each fits = All-push (IsOfParts r first.shard.parts) (first ∷ before) folder each fits

-- reports that agree, and one more that does
pub reports_grow : (before : List PartReport) (one : PartReport) → Agree before → AgreesBehind before one → Agree (before ++ one ∷ [])
reports_grow [] one each agrees =
    All-push (IsPartReport one.report.format one.report.budget) [] one (All-nil (IsPartReport one.report.format one.report.budget)) agrees
reports_grow (first ∷ before) one each agrees =
    All-push (IsPartReport first.report.format first.report.budget) (first ∷ before) one each agrees

-- folders that fit are those of some part
pub some_parts : (r : RecordingForm) (folders : List PartFolderForm) → AreFolders r folders → 1 ≤ length folders → 1 ≤ parts_of folders
some_parts r [] each some = absurd (omega (arith, some))
some_parts r (first ∷ folders) each some =
    let rules = (All-head (IsOfParts r first.shard.parts) first folders each).rules in omega (arith, rules.part.0, rules.part.1)
