-- Files of different names are apart in every directory.
use Rattle.std.proofs.Common.{◌≢◌, ℕ, suc, List, [], ◌∷◌, arith}
use Rattle.std.specs.Prelude.{All}
use Rattle.std.proofs.lemmas.List.Elements.{All-cons, All-head, All-nil, All-tail}
use Rattle.std.proofs.lemmas.List.Kept.{AllPairs-cons}
use Rattle.gp_outside.specs.Folders.{File}
use Rattle.gp_window.specs.FileNames.{path_of}
use Rattle.gp_files.specs.MadeFileForm.{MadeFileForm}
use Rattle.gp_files.specs.Naming.{DifferInName, IsNumbered}
use Rattle.gp_files.specs.Writing.{AreApart, files_at}
use Rattle.gp_files.proofs.Paths.{same_file}

-- the names of the files have numbers below 2 ^ 64
abbrev AreNumbered : List MadeFileForm → Type 0
AreNumbered files = All (λ (file : MadeFileForm). IsNumbered file.name) files

-- a file of this name is none of the files
abbrev IsOther : MadeFileForm → List MadeFileForm → Type 0
IsOther file files = All (λ (other : MadeFileForm). file.name ≢ other.name) files

-- a file at its path in this directory
abbrev file_at : List ℕ → MadeFileForm → File
file_at directory file = record { name = path_of directory file.name; bytes = file.text }

others_differ : (file : MadeFileForm) (files : List MadeFileForm) → DifferInName (file ∷ files) → IsOther file files
others_differ file files differ = λ k d within. differ 0 (suc k) d (omega arith) (omega (arith, within))

later_differ : (file : MadeFileForm) (files : List MadeFileForm) → DifferInName (file ∷ files) → DifferInName files
later_differ file files differ = λ i j d before within. differ (suc i) (suc j) d (omega (arith, before)) (omega (arith, within))

none_there : (directory : List ℕ) (file : MadeFileForm) (files : List MadeFileForm) → IsNumbered file.name → AreNumbered files → IsOther file files
    → All (λ (other : File). path_of directory file.name ≢ other.name) (files_at directory files)
none_there directory file [] fits numbered differs = All-nil (λ (other : File). path_of directory file.name ≢ other.name)
none_there directory file (other ∷ files) fits numbered differs =
    let Numbered : MadeFileForm → Type 0 = λ (one : MadeFileForm). IsNumbered one.name in
    let Differs : MadeFileForm → Type 0 = λ (one : MadeFileForm). file.name ≢ one.name in
    All-cons (λ (one : File). path_of directory file.name ≢ one.name) (file_at directory other) (files_at directory files)
    (λ same. All-head Differs other files differs (same_file directory file.name other.name fits (All-head Numbered other files numbered) same))
    (none_there directory file files fits (All-tail Numbered other files numbered) (All-tail Differs other files differs))

pub files_apart : (directory : List ℕ) (files : List MadeFileForm) → AreNumbered files → DifferInName files → AreApart (files_at directory files)
files_apart directory [] numbered differ = λ i j d before within. absurd (omega (arith, within))
files_apart directory (file ∷ files) numbered differ =
    let Numbered : MadeFileForm → Type 0 = λ (one : MadeFileForm). IsNumbered one.name in
    AllPairs-cons (λ (one other : File). one.name ≢ other.name) (file_at directory file) (files_at directory files)
    (none_there directory file files (All-head Numbered file files numbered) (All-tail Numbered file files numbered) (others_differ file files differ))
    (files_apart directory files (All-tail Numbered file files numbered) (later_differ file files differ))
