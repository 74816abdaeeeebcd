-- A line that is put word by word.
use Rattle.std.proofs.Common.{◌≡◌, ℕ, List, ◌∷◌, ◌++◌, ap, ◌∙◌, sym, append_assoc}
use Rattle.gp_text.specs.Spelling.{after_words, joined}
use Rattle.gp_text.specs.SpellingLaws.{joined_after}

-- the first word, and then the words that follow it
pub first_put : (old first : List ℕ) (words : List (List ℕ)) → (old ++ first) ++ after_words words ≡ old ++ joined (first ∷ words)
first_put old first words = append_assoc old first (after_words words) ∙ ap (λ line. old ++ line) (sym (joined_after first words))
