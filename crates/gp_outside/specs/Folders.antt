use Rattle.std.specs.Prelude.{◌≡◌, ℕ, ◌<◌, ◌≤◌, false, List, [], ◌∷◌, ◌++◌, length, Option, None, Some, if◌then◌else◌}
use Rattle.std.specs.Str.{bytes_eq}

-- a file: its name and what it holds
pub record File : Type 0 where
  pub name : List ℕ
  pub bytes : List ℕ

-- what the first file of that name holds, if there is one
abbrev pub file_named : List File → List ℕ → Option (List ℕ)
file_named [] name = None
file_named (file ∷ files) name = if bytes_eq file.name name then Some file.bytes else file_named files name

-- there is a file, and what it holds meets the fact
abbrev pub IsFile : Option (List ℕ) → (List ℕ → Type 0) → Type 0
IsFile None P = ⊥
IsFile (Some content) P = P content

-- the first list begins with the second
abbrev pub BeginsWith : List ℕ → List ℕ → Type 0
BeginsWith new old = (rest : List ℕ) × (new ≡ old ++ rest)

-- the content is within the limit, and the buffer is its old contents and then all of it
abbrev pub IsWhole : ℕ → List ℕ → List ℕ → List ℕ → Type 0
IsWhole limit old new content = (length content ≤ limit) × (new ≡ old ++ content)

-- where files are told, the one of that name was read whole
abbrev pub ReadWhole : Option (List File) → List ℕ → ℕ → List ℕ → List ℕ → Type 0
ReadWhole None name limit old new = Unit {0}
ReadWhole (Some files) name limit old new = IsFile (file_named files name) (IsWhole limit old new)

-- where files are told, none has that name; elsewhere the cause is there
abbrev pub HasNone : Option (List File) → List ℕ → Type 0 → Type 0
HasNone None name Cause = Cause
HasNone (Some files) name Cause = file_named files name ≡ None

-- where files are told, the one of that name has more bytes than the limit
abbrev pub HasLonger : Option (List File) → List ℕ → ℕ → Type 0
HasLonger None name limit = Unit {0}
HasLonger (Some files) name limit = IsFile (file_named files name) (λ content. limit < length content)

-- every name but this one gives what it gave
abbrev pub SameBut : List ℕ → List File → List File → Type 0
SameBut name old new = (other : List ℕ) → bytes_eq other name ≡ false → file_named new other ≡ file_named old other

-- the file of that name holds the bytes, and every other name gives what it gave
pub record IsWritten (name bytes : List ℕ) (old new : List File) : Type 0 where
  pub holds : file_named new name ≡ Some bytes
  pub others : SameBut name old new

-- where files are told, they are told after too, and the one of that name was written
abbrev pub Writes : Option (List File) → Option (List File) → List ℕ → List ℕ → Type 0
Writes None new name bytes = new ≡ None
Writes (Some old) new name bytes = (files : List File) × (new ≡ Some files) × IsWritten name bytes old files

-- where files are told, they are told after too, and what the one of that name holds is open
abbrev pub Spares : Option (List File) → Option (List File) → List ℕ → Type 0
Spares None new name = new ≡ None
Spares (Some old) new name = (files : List File) × (new ≡ Some files) × SameBut name old files
