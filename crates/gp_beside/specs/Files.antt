-- The files that may stand beside a report for people, and what is told of one that is there.
use Rattle.std.specs.Prelude.{ℕ, ◌≤◌, ◌++◌, List, Option, Some, None, Result, Ok, Err, codes, decimal, if◌then◌else◌, length, nat_lt}
use Rattle.gp_base.specs.Results.{and_then, or_refused}
use Rattle.gp_outside.specs.Folders.{File, file_named}
use Rattle.gp_text.specs.Lines.{end_line_of, lines_of}
use Rattle.gp_text.specs.declared.line.Line.{Line}
use Rattle.gp_text.specs.declared.lines.TextFault.{TextFault}
use Rattle.gp_beside.specs.declared.fault.Cause.{Cause}
use Rattle.gp_beside.specs.declared.fault.Cause.TheVariants.{Text, TooLong}
use Rattle.gp_beside.specs.declared.fault.NoteFile.{NoteFile}
use Rattle.gp_beside.specs.declared.fault.NoteFile.TheVariants.{Confirmed, Places, ThreadPlaces}
use Rattle.gp_beside.specs.declared.files.Content.{Content}
use Rattle.gp_beside.specs.declared.files.Content.TheVariants as content
use Rattle.gp_beside.specs.declared.files.FileLines.{FileLines}

-- the name of a file in its directory
abbrev pub name_of : NoteFile → List ℕ
name_of Places = codes "places"
name_of (ThreadPlaces thread) = codes "t" ++ decimal thread ++ codes ".places"
name_of Confirmed = codes "confirmed"

-- the name that is handed to the folder
abbrev pub path_of : List ℕ → NoteFile → List ℕ
path_of directory file = directory ++ codes "/" ++ name_of file

-- the lines of a file of at most 1,048,576 bytes
abbrev pub lines_in : List ℕ → Result (List Line) Cause
lines_in bytes = if nat_lt 1048576 (length bytes) then Err TooLong else or_refused Text (lines_of bytes)

-- what a file tells, where it is there, by what its bytes and their lines tell; else this
abbrev pub told_in : {A : Type 0} → A → (List ℕ → List Line → Result A Cause) → Option (List ℕ) → Result A Cause
told_in none tells None = Ok none
told_in none tells (Some bytes) = and_then (lines_in bytes) (tells bytes)

-- the same of a file in a directory
abbrev pub told_at : {A : Type 0} → List File → List ℕ → NoteFile → A → (List ℕ → List Line → Result A Cause) → Result A Cause
told_at files directory file none tells = told_in none tells (file_named files (path_of directory file))

-- what is read of a file
abbrev pub content_of : Option (List ℕ) → Content
content_of None = content.Absent
content_of (Some bytes) = if nat_lt 1048576 (length bytes) then content.TooLong else content.Held bytes

-- what is held keeps the limit
abbrev pub IsWithin : Content → Type 0
IsWithin content.Absent = Unit {0}
IsWithin content.TooLong = Unit {0}
IsWithin (content.Held bytes) = length bytes ≤ 1048576

-- the lines of these bytes, with the line at which they end
abbrev pub file_lines : List ℕ → Result (List Line) TextFault → Result (Option FileLines) Cause
file_lines bytes (Ok lines) = Ok (Some (record { last = end_line_of bytes; lines = lines }))
file_lines bytes (Err fault) = Err (Text fault)

-- the lines of what was read of a file, where it is there
abbrev pub lines_held : Content → Result (Option FileLines) Cause
lines_held content.Absent = Ok None
lines_held content.TooLong = Err TooLong
lines_held (content.Held bytes) = file_lines bytes (lines_of bytes)

-- the same of a file in a directory
abbrev pub lines_at : List File → List ℕ → NoteFile → Result (Option FileLines) Cause
lines_at files directory file = lines_held (content_of (file_named files (path_of directory file)))

-- what a file tells, by what its last line's number and its lines tell
abbrev pub told_by : {A : Type 0} → A → (ℕ → List Line → Result A Cause) → Result (Option FileLines) Cause → Result A Cause
told_by none tells (Ok None) = Ok none
told_by none tells (Ok (Some found)) = tells found.last found.lines
told_by none tells (Err cause) = Err cause
