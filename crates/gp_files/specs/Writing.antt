-- What writing files leaves in a folder.
use Rattle.std.specs.Prelude.{ℕ, ◌≡◌, ◌≢◌, ◌⊎◌, false, List, Option, None, Some, All, AllPairs, Any, map}
use Rattle.std.specs.Str.{bytes_eq}
use Rattle.gp_outside.specs.Folders.{File, file_named}
use Rattle.gp_window.specs.FileNames.{path_of}
use Rattle.gp_files.specs.MadeFileForm.{MadeFileForm}

-- files in this directory, by the names that are handed to the folder, in the same order
abbrev pub files_at : List ℕ → List MadeFileForm → List File
files_at directory files = map (λ file. record { name = path_of directory file.name; bytes = file.text }) files

-- no two of the files have one name
abbrev pub AreApart : List File → Type 0
AreApart files = AllPairs (λ (one other : File). one.name ≢ other.name) files

-- a file of that name is made, and this is its text
abbrev pub IsMade : List File → List ℕ → Option (List ℕ) → Type 0
IsMade made name content = Any (λ (file : File). (file.name ≡ name) × (content ≡ Some file.bytes)) made

-- the file of that name is as before, or it is a made file with its text
abbrev pub IsKeptOrMade : List File → List File → List File → List ℕ → Type 0
IsKeptOrMade made before after name = (file_named after name ≡ file_named before name) ⊎ IsMade made name (file_named after name)

-- so it is of every name
abbrev pub AreKeptOrMade : List File → List File → List File → Type 0
AreKeptOrMade made before after = (name : List ℕ) → IsKeptOrMade made before after name

-- each made file is there with its text, and each other file is as before
pub record AreAllMade (made before after : List File) : Type 0 where
  pub texts : All (λ (file : File). file_named after file.name ≡ Some file.bytes) made
  pub others : AreKeptOrMade made before after

-- so it is of every name but that of one made file, whose write failed
pub record AreSomeMade (made before after : List File) : Type 0 where
  pub failed : List ℕ
  pub is_made : Any (λ (file : File). file.name ≡ failed) made
  pub others : (name : List ℕ) → bytes_eq name failed ≡ false → IsKeptOrMade made before after name

-- the files are made in their order: where one of them is not as before, each one in front of it is there with its text
abbrev pub AreMadeInOrder : List File → List File → List File → Type 0
AreMadeInOrder made before after =
    AllPairs (λ (one later : File). (file_named after later.name ≡ file_named before later.name) ⊎ (file_named after one.name ≡ Some one.bytes)) made

-- where the files are told, they are still told, and the fact holds of those before and those after
abbrev pub WhereTold : Option (List File) → Option (List File) → (List File → List File → Type 0) → Type 0
WhereTold None after P = after ≡ None
WhereTold (Some before) after P = (new : List File) × (after ≡ Some new) × P before new
