-- Files that have different names stand apart in every directory.
use Rattle.std.specs.Prelude.{ℕ, ◌≡◌, ◌≢◌, ◌<◌, ◌^◌, List, All, AllPairs}
use Rattle.gp_window.specs.declared.file_name.FileName.{FileName}
use Rattle.gp_window.specs.declared.file_name.FileName.TheVariants.{Manifest, Trace, Properties, Schedule, Report, Shard}
use Rattle.gp_window.specs.FileNames.{path_of}
use Rattle.gp_files.specs.MadeFileForm.{MadeFileForm}
use Rattle.gp_files.specs.Writing.{AreApart, files_at}

-- the number of a trace's thread is below 2 ^ 64
abbrev pub IsNumbered : FileName → Type 0
IsNumbered Manifest = Unit {0}
IsNumbered (Trace thread) = thread < 2 ^ 64
IsNumbered Properties = Unit {0}
IsNumbered Schedule = Unit {0}
IsNumbered Report = Unit {0}
IsNumbered Shard = Unit {0}

-- no two of the files have one name
abbrev pub DifferInName : List MadeFileForm → Type 0
DifferInName files = AllPairs (λ (one other : MadeFileForm). one.name ≢ other.name) files

-- a path in a directory tells which file it is, so files that differ in name are apart there
pub record NamesTellApart : Type 0 where
  pub paths : (directory : List ℕ) (one other : FileName) → IsNumbered one → IsNumbered other
      → path_of directory one ≡ path_of directory other → one ≡ other
  pub files : (directory : List ℕ) (files : List MadeFileForm) → All (λ (file : MadeFileForm). IsNumbered file.name) files
      → DifferInName files → AreApart (files_at directory files)
