-- The bytes of the input files of a folder: a function of the files alone.
use Rattle.std.specs.Prelude.{◌≡◌, ℕ, zero, suc, ◌+◌, List, [], length, Option, Some, None, Result, Ok, Err, if◌then◌else◌, nat_lt}
use Rattle.gp_outside.specs.Folders.{File, file_named}
use Rattle.gp_base.specs.Results.{then_rest}
use Rattle.gp_window.specs.declared.content.ContentFault.{ContentFault}
use Rattle.gp_window.specs.declared.content.ContentFault.TheVariants.{Absent, TooLong, ReadFailed, Memory}
use Rattle.gp_window.specs.declared.file_name.FileName.{FileName}
use Rattle.gp_window.specs.declared.file_name.FileName.TheVariants.{Trace}
use Rattle.gp_window.specs.FileNames.{limit_of, path_of}

-- the bytes of a file that is there and not too long
abbrev pub content_where : FileName → Option (List ℕ) → Result (List ℕ) ContentFault
content_where file None = Err (Absent file)
content_where file (Some bytes) = if nat_lt (limit_of file) (length bytes) then Err (TooLong file) else Ok bytes

-- the bytes of a file in this directory
abbrev pub content_of : List File → List ℕ → FileName → Result (List ℕ) ContentFault
content_of files directory file = content_where file (file_named files (path_of directory file))

-- the bytes of the traces of so many threads, from this thread on
abbrev pub contents_from : List File → List ℕ → ℕ → ℕ → Result (List (List ℕ)) ContentFault
contents_from files directory thread zero = Ok []
contents_from files directory thread (suc more) =
    then_rest (content_of files directory (Trace thread)) (contents_from files directory (thread + 1) more)

-- what a fault says of the files; a fault of the folder and want of memory say nothing
abbrev pub content_cause : ContentFault → Option ContentFault
content_cause (Absent file) = Some (Absent file)
content_cause (TooLong file) = Some (TooLong file)
content_cause ReadFailed = None
content_cause Memory = None

-- a fault that names a file names this one
abbrev pub IsOf : FileName → ContentFault → Type 0
IsOf file (Absent other) = other ≡ file
IsOf file (TooLong other) = other ≡ file
IsOf file ReadFailed = Unit {0}
IsOf file Memory = Unit {0}
