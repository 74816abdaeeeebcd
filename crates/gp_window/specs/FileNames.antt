-- The names and limits of the input files of a folder.
use Rattle.std.specs.Prelude.{ℕ, ◌++◌, List, codes, decimal}
use Rattle.gp_window.specs.declared.file_name.FileName.{FileName}
use Rattle.gp_window.specs.declared.file_name.FileName.TheVariants.{Manifest, Trace, Properties, Schedule, Report, Shard}

-- the name of a file in its directory
abbrev pub name_of : FileName → List ℕ
name_of Manifest = codes "manifest"
name_of (Trace thread) = codes "t" ++ decimal thread ++ codes ".trace"
name_of Properties = codes "props"
name_of Schedule = codes "schedule"
name_of Report = codes "report"
name_of Shard = codes "shard"

-- the most bytes of a file
abbrev pub limit_of : FileName → ℕ
limit_of Manifest = 1048576
limit_of (Trace thread) = 2097152
limit_of Properties = 262144
limit_of Schedule = 16777216
limit_of Report = 67108864
limit_of Shard = 4096

-- the name that is handed to the folder
abbrev pub path_of : List ℕ → FileName → List ℕ
path_of directory file = directory ++ codes "/" ++ name_of file
