-- Which lines spell which manifest, and that this is what the reader reads.
use Rattle.std.specs.Prelude.{◌≡◌, ◌↔◌, ◌++◌, ℕ, true, List, [], ◌∷◌, All, FitsSigned, codes, decimal, map, Ok}
use Rattle.std.specs.Fmt.{signed_decimal}
use Rattle.std.specs.Int.{w64}
use Rattle.std.specs.List.Sorted.{IsPermutation}
use Rattle.gp_text.specs.declared.line.Line.{Line}
use Rattle.gp_text.specs.Name.{is_name}
use Rattle.gp_window.specs.declared.manifest.StartValue.{StartValue}
use Rattle.gp_window.specs.Manifest.{manifest_in}
use Rattle.gp_window.specs.ManifestForm.{IsManifest, ManifestForm}

-- the words of the first four lines: the format, the numbers of threads and of epochs, and the roots
abbrev pub head_words : ManifestForm → List (List (List ℕ))
head_words m =
    (codes "gptrace" ∷ decimal m.format ∷ [])
    ∷ (codes "threads" ∷ decimal m.threads ∷ [])
    ∷ (codes "epochs" ∷ decimal m.epochs ∷ [])
    ∷ (codes "roots" ∷ map decimal m.roots)
    ∷ []

-- the words of a line that gives a value
abbrev pub value_words : StartValue → List (List ℕ)
value_words value = codes "value" ∷ decimal value.window ∷ value.variable ∷ signed_decimal value.value ∷ []

-- the variable is a name, and the value has its width
abbrev pub IsStartValue : StartValue → Type 0
IsStartValue value = (is_name value.variable ≡ true) × FitsSigned w64 value.value

-- the lines spell this manifest: the first four say its head, each of the others gives one of its values, in any order, and
-- it is a manifest, with values of variables
pub record Spells (lines : List Line) (m : ManifestForm) : Type 0 where
  pub given : List StartValue
  pub words : map (λ line. line.words) lines ≡ head_words m ++ map value_words given
  pub all : IsPermutation given m.values
  pub kept : IsManifest m
  pub values : All IsStartValue m.values

-- lines are read as a manifest exactly where they spell it, whatever the line is at which their text ends
abbrev pub ManifestsAreSpelled : Type 0
ManifestsAreSpelled = (last : ℕ) (lines : List Line) (m : ManifestForm) → (manifest_in last (Ok lines) ≡ Ok m) ↔ Spells lines m
