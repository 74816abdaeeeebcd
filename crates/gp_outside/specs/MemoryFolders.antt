use Rattle.gp_base.specs.Counts.{one_more}
use Rattle.gp_outside.specs.Folders.{File, file_named}
use Rattle.gp_outside.specs.declared.folders.ReadFault.TheVariants.{Absent, Failed, TooLong}
use Rattle.gp_outside.specs.declared.folders.ReadFault.{ReadFault}
use Rattle.gp_outside.specs.declared.folders.WriteFault.TheVariants as write
use Rattle.gp_outside.specs.declared.folders.WriteFault.{WriteFault}
use Rattle.std.specs.Global.{Global, Vec}
use Rattle.std.specs.List.{list_any}
use Rattle.std.specs.Prelude.{◌+◌, ◌==◌, Bool, Err, List, None, Ok, Option, Result, Some, String, [], ◌∷◌, if◌then◌else◌, length, map, nat_lt, string_bytes, take, ℕ}
use Rattle.std.specs.Str.{bytes_eq}

-- a file, from the pair of its name and its bytes
abbrev pub file_of : String Global × Vec ℕ → File
file_of pair = record { name = string_bytes pair.0; bytes = pair.1.items }

-- the files, from such pairs in their order
abbrev pub files_of : List (String Global × Vec ℕ) → List File
files_of pairs = map file_of pairs

-- a folder in memory: its files, the numbers of the calls that fail, and how many calls and faults there were
pub record FolderState : Type 0 where
  pub files : List File
  pub failing : List ℕ
  pub calls : ℕ
  pub faults : ℕ

-- whether the next call is one of those that fail
abbrev pub fails_next : FolderState → Bool
fails_next folder = list_any (λ call. call == one_more folder.calls) folder.failing

-- the folder after one call more, and after one fault more where that call is one that fails
abbrev pub after_call : FolderState → FolderState
after_call folder = record folder {
  calls = one_more folder.calls;
  faults = if fails_next folder then one_more folder.faults else folder.faults;
}

-- the answer by what the file of that name holds
abbrev pub answer_by : Option (List ℕ) → ℕ → Result (Unit {0}) ReadFault
answer_by None limit = Err Absent
answer_by (Some content) limit = if nat_lt limit (length content) then Err TooLong else Ok tt

-- the bytes that are read of a file: one more than the limit where it has so many
abbrev pub bytes_by : Option (List ℕ) → ℕ → List ℕ
bytes_by None limit = []
bytes_by (Some content) limit = take (limit + 1) content

-- the answer of the next call, where there is memory for it
abbrev pub read_answer : FolderState → List ℕ → ℕ → Result (Unit {0}) ReadFault
read_answer folder name limit = if fails_next folder then Err Failed else answer_by (file_named folder.files name) limit

-- the bytes that the next call reads, where there is memory for them
abbrev pub read_bytes : FolderState → List ℕ → ℕ → List ℕ
read_bytes folder name limit = if fails_next folder then [] else bytes_by (file_named folder.files name) limit

-- the files after a write: the first of that name holds the bytes, and where none has the name there is one more at the end
abbrev pub with_file : List File → List ℕ → List ℕ → List File
with_file [] name bytes = record { name = name; bytes = bytes } ∷ []
with_file (file ∷ files) name bytes = if bytes_eq file.name name then record file { bytes = bytes } ∷ files else file ∷ with_file files name bytes

-- the answer of the next call to a write, where there is memory for it
abbrev pub write_answer : FolderState → Result (Unit {0}) WriteFault
write_answer folder = if fails_next folder then Err write.Failed else Ok tt

-- the folder after the next call was a write, where there is memory for it
abbrev pub after_write : FolderState → List ℕ → List ℕ → FolderState
after_write folder name bytes = record (after_call folder) { files = if fails_next folder then folder.files else with_file folder.files name bytes }
