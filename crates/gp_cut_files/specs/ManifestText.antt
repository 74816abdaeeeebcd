-- The canonical text of a manifest: one space between words, and a newline after each line.
use Rattle.std.specs.Prelude.{ℕ, ◌≡◌, List, ◌++◌, map, All, Ok}
use Rattle.gp_text.specs.Spelling.{spelling}
use Rattle.gp_window.specs.Grammar.{IsStartValue, head_words, value_words}
use Rattle.gp_window.specs.Manifest.{manifest_of_text}
use Rattle.gp_window.specs.ManifestForm.{IsManifest, ManifestForm}

-- the lines of a manifest: its head, and then a line for each of its values
abbrev pub manifest_lines : ManifestForm → List (List (List ℕ))
manifest_lines m = head_words m ++ map value_words m.values

-- the text of a manifest
abbrev pub manifest_text : ManifestForm → List ℕ
manifest_text m = spelling (manifest_lines m)

-- the text of a manifest is read as the manifest, where its variables are names and its values have their width
abbrev pub ManifestReadsAgain : Type 0
ManifestReadsAgain = (m : ManifestForm) → IsManifest m → All IsStartValue m.values → manifest_of_text (manifest_text m) ≡ Ok m
