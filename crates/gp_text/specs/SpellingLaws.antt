-- Laws: a text that is written line by line, and a line that is written word by word.
use Rattle.std.specs.Prelude.{◌≡◌, refl, ℕ, List, [], ◌∷◌, ◌++◌}
use Rattle.std.proofs.Common.{ap, ◌∙◌, sym, append_assoc, append-nil}
use Rattle.gp_text.specs.Spelling.{after_words, joined, spelling}

-- lines, and then more lines
pub spelling_append : (xs ys : List (List (List ℕ))) → spelling (xs ++ ys) ≡ spelling xs ++ spelling ys
spelling_append [] ys = refl
spelling_append (x ∷ xs) ys = ap (λ rest. joined x ++ (10 ∷ rest)) (spelling_append xs ys) ∙ sym (append_assoc (joined x) (10 ∷ spelling xs) (spelling ys))

-- the first word of a line, and the words that follow it
pub joined_after : (word : List ℕ) (words : List (List ℕ)) → joined (word ∷ words) ≡ word ++ after_words words
joined_after word [] = sym (append-nil word)
joined_after word (next ∷ words) = ap (λ rest. word ++ (32 ∷ rest)) (joined_after next words)

-- words that follow the first one, and then more words
pub after_append : (xs ys : List (List ℕ)) → after_words (xs ++ ys) ≡ after_words xs ++ after_words ys
after_append [] ys = refl
after_append (x ∷ xs) ys = ap (λ rest. 32 ∷ (x ++ rest)) (after_append xs ys) ∙ ap (λ rest. 32 ∷ rest) (sym (append_assoc x (after_words xs) (after_words ys)))

-- one line, written word by word
pub line_put : (old first : List ℕ) (words : List (List ℕ)) → ((old ++ first) ++ after_words words) ++ 10 ∷ [] ≡ old ++ spelling ((first ∷ words) ∷ [])
line_put old first words =
    append_assoc (old ++ first) (after_words words) (10 ∷ [])
    ∙ append_assoc old first (after_words words ++ 10 ∷ [])
    ∙ ap (λ rest. old ++ rest) (sym (append_assoc first (after_words words) (10 ∷ [])) ∙ ap (λ line. line ++ 10 ∷ []) (sym (joined_after first words)))

-- a word and then further words
pub word_put : (old word : List ℕ) (words : List (List ℕ)) → (old ++ after_words (word ∷ [])) ++ after_words words ≡ old ++ after_words (word ∷ words)
word_put old word words =
    append_assoc old (after_words (word ∷ [])) (after_words words)
    ∙ ap (λ rest. old ++ rest) (sym (after_append (word ∷ []) words))

-- a line of a word more
pub line_put_with : (old first word : List ℕ) (words : List (List ℕ)) → (((old ++ first) ++ after_words (word ∷ [])) ++ after_words words) ++ 10 ∷ [] ≡ old ++ spelling ((first ∷ word ∷ words) ∷ [])
line_put_with old first word words =
    ap (λ text. text ++ 10 ∷ []) (word_put (old ++ first) word words) ∙ line_put old first (word ∷ words)
