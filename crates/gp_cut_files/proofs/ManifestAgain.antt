-- The text of a manifest is read as the manifest.
use Rattle.std.proofs.Common.{◌≡◌, refl, ap, ◌∙◌, ℕ, ◌+◌, List, [], ◌∷◌, map}
use Rattle.std.proofs.lemmas.List.Sorted.{IsPermutation-refl}
use Rattle.gp_text.specs.declared.line.Line.{Line}
use Rattle.gp_text.specs.Lines.{end_line_of}
use Rattle.gp_text.specs.Spelling.{PlainWords, ReadsAgain, numbered}
use Rattle.gp_window.specs.Grammar.{ManifestsAreSpelled}
use Rattle.gp_window.specs.Manifest.{manifest_in}
use Rattle.gp_cut_files.specs.ManifestText.{ManifestReadsAgain, manifest_lines, manifest_text}
use Rattle.gp_cut_files.proofs.Plain.{manifest_plain}

-- the words of lines that were numbered
numbered_words : (n : ℕ) (lines : List (List (List ℕ))) → map (λ (line : Line). line.words) (numbered n lines) ≡ lines
numbered_words n [] = refl
numbered_words n (words ∷ lines) = ap (λ rest. words ∷ rest) (numbered_words (n + 1) lines)

pub manifest_again : PlainWords → ReadsAgain → ManifestsAreSpelled → ManifestReadsAgain
manifest_again plain again spelled m kept values =
    let last : ℕ = end_line_of (manifest_text m) in
    ap (manifest_in last) (again (manifest_lines m) (manifest_plain plain m kept values))
    ∙ (spelled last (numbered 1 (manifest_lines m)) m).1 (record {
      given = m.values;
      words = numbered_words 1 (manifest_lines m);
      all = IsPermutation-refl m.values;
      kept = kept;
      values = values;
    })
