-- The printed text of a property is read as this property alone.
use Rattle.std.proofs.Common.{◌≡◌, refl, sym, ap, ◌∙◌, ℕ, ◌+◌, List, [], ◌∷◌, append-nil, lit≤}
use Rattle.gp_text.specs.Lines.{end_line_of}
use Rattle.gp_text.specs.Numbers.{OneSpelling}
use Rattle.gp_text.specs.Spelling.{numbered, PlainWords, ReadsAgain, spelling}
use Rattle.gp_property.specs.PropertyForm.{PropertyForm}
use Rattle.gp_property.specs.Grammar.{PropertyAgain, Spells}
use Rattle.gp_property.specs.Property.{IsProperty}
use Rattle.gp_property.specs.Reading.{properties_in}
use Rattle.gp_property.specs.Words.{property_lines}
use Rattle.gp_property.proofs.LinesAgain.{spelled_read, words_in}
use Rattle.gp_property.proofs.ShortWords.{property_plain}

-- numbered lines keep their words
words_numbered : (n : ℕ) (lines : List (List (List ℕ))) → words_in (numbered n lines) ≡ lines
words_numbered n [] = refl
words_numbered n (line ∷ lines) = ap (λ rest. line ∷ rest) (words_numbered (n + 1) lines)

-- a property alone is spelled by its lines
alone : (property : PropertyForm) → IsProperty property → Spells (numbered 1 (property_lines property)) (property ∷ [])
alone property is = record {
  words = words_numbered 1 (property_lines property) ∙ sym (append-nil (property_lines property));
  some = lit≤ tt;
  most = lit≤ tt;
  apart = (refl, tt);
  each = (is, tt);
}

pub property_again_lem : OneSpelling → PlainWords → ReadsAgain → PropertyAgain
property_again_lem spelled plain again property is =
    ap (properties_in (end_line_of (spelling (property_lines property)))) (again (property_lines property) (property_plain plain property is))
    ∙ spelled_read spelled (end_line_of (spelling (property_lines property))) (numbered 1 (property_lines property)) (property ∷ []) (alone property is)
