-- Folders that fit together: each has a part of one recording, of as many parts as the first of them, with the windows that it has there.
use Rattle.std.specs.Prelude.{ℕ, ◌≡◌, ◌≤◌, List, [], ◌∷◌, ◌++◌, All, length, map}
use Rattle.gp_merge.specs.declared.merging.PartReport.{PartReport}
use Rattle.gp_merge.specs.Merge.{AreInRow, IsPartReport}
use Rattle.gp_shard.specs.Shard.{IsShard}
use Rattle.gp_window.specs.RecordingForm.{RecordingForm}
use Rattle.gp_shards.specs.Cutting.{shard_of}
use Rattle.gp_shards.specs.Merging.{parts_of, windows_in}
use Rattle.gp_shards.specs.PartFolders.{PartFolderForm}
use Rattle.gp_shards.specs.declared.merging.AllParts.{AllParts}

-- a folder has one of so many parts of a recording, with its windows
pub record IsOfParts (r : RecordingForm) (parts : ℕ) (folder : PartFolderForm) : Type 0 where
  pub rules : IsShard folder.shard
  pub windows : folder.shard ≡ shard_of r folder.shard.part parts

-- these folders have parts of a recording
abbrev pub AreFolders : RecordingForm → List PartFolderForm → Type 0
AreFolders r folders = All (IsOfParts r (parts_of folders)) folders

-- a folder behind these has one of as many parts
abbrev pub FitsBehind : RecordingForm → List PartFolderForm → PartFolderForm → Type 0
FitsBehind r before folder = IsOfParts r (parts_of (before ++ folder ∷ [])) folder

-- each report has the format and the budget of the first, and a window for each of its part and one for the stage
abbrev pub Agree : List PartReport → Type 0
Agree [] = Unit {0}
Agree (first ∷ parts) = All (IsPartReport first.report.format first.report.budget) (first ∷ parts)

-- a report behind these agrees with the first of them
abbrev pub AgreesBehind : List PartReport → PartReport → Type 0
AgreesBehind [] part = IsPartReport part.report.format part.report.budget part
AgreesBehind (first ∷ parts) part = IsPartReport first.report.format first.report.budget part

-- these are the reports of the parts in these folders, and they agree
pub record AreReportsOf (folders : List PartFolderForm) (told : List PartReport) : Type 0 where
  pub parts : map (λ (one : PartReport). one.part) told ≡ map (λ (folder : PartFolderForm). windows_in folder.shard) folders
  pub agree : Agree told

-- these are all parts of a recording, which follow one another from its first window to its last, with the reports in their folders, which
-- agree
pub record AreAllParts (r : RecordingForm) (all : AllParts) : Type 0 where
  pub row : AreInRow 0 all.parts r.manifest.epochs
  pub some : 1 ≤ length all.parts
  pub reports : AreReportsOf all.folders all.parts
