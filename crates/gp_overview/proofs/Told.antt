-- Texts that are put one after another.
use Rattle.std.proofs.Common.{◌≡◌, ℕ, ◌+◌, ◌-◌, ◌<◌, suc, List, [], ◌∷◌, ◌++◌, ap, ◌∙◌, sym, append_assoc, arith}
use Rattle.gp_text.specs.Spelling.{after_words, joined}
use Rattle.gp_text.specs.SpellingLaws.{after_append, joined_after}
use Rattle.gp_overview.specs.Table.{spaces}

-- words, and then more words
pub words_put : (old : List ℕ) (xs ys : List (List ℕ)) → (old ++ after_words xs) ++ after_words ys ≡ old ++ after_words (xs ++ ys)
words_put old xs ys = append_assoc old (after_words xs) (after_words ys) ∙ ap (λ (rest : List ℕ). old ++ rest) (sym (after_append xs ys))

-- the first words of a line, and then more words twice
pub line_put : (old first : List ℕ) (xs ys : List (List ℕ)) → ((old ++ first) ++ after_words xs) ++ after_words ys ≡ old ++ joined (first ∷ (xs ++ ys))
line_put old first xs ys =
    words_put (old ++ first) xs ys
    ∙ append_assoc old first (after_words (xs ++ ys))
    ∙ ap (λ (rest : List ℕ). old ++ rest) (sym (joined_after first (xs ++ ys)))

-- three texts
pub three_put : (old a b c : List ℕ) → ((old ++ a) ++ b) ++ c ≡ old ++ (a ++ b ++ c)
three_put old a b c = simp append_assoc

-- one space more
pub space_put : (text whole : List ℕ) (i count : ℕ) → i < count → text ++ spaces (count - i) ≡ whole → (text ++ 32 ∷ []) ++ spaces (count - (i + 1)) ≡ whole
space_put text whole i count below is =
    let left : count - i ≡ suc (count - (i + 1)) = omega arith in
    append_assoc text (32 ∷ []) (spaces (count - (i + 1))) ∙ ap (λ (n : ℕ). text ++ spaces n) (sym left) ∙ is
