-- A line that is put word by word, and lines one after another.
use Rattle.std.proofs.Common.{◌≡◌, ℕ, List, [], ◌∷◌, ◌++◌, Result, Ok, Err, OnOk, is_ok, if◌then◌else◌, ap, ◌∙◌, sym, append_assoc}
use Rattle.gp_text.specs.Spelling.{after_words, joined, spelling}
use Rattle.gp_text.specs.SpellingLaws.{after_append, joined_after, spelling_append}

-- the first word of a line, and then the words that follow it
first_put : (old first : List ℕ) (words : List (List ℕ)) → (old ++ first) ++ after_words words ≡ old ++ joined (first ∷ words)
first_put old first words = append_assoc old first (after_words words) ∙ ap (λ line. old ++ line) (sym (joined_after first words))

-- words, and then more words
two_put : (old : List ℕ) (xs ys : List (List ℕ)) → (old ++ after_words xs) ++ after_words ys ≡ old ++ after_words (xs ++ ys)
two_put old xs ys = append_assoc old (after_words xs) (after_words ys) ∙ ap (λ rest. old ++ rest) (sym (after_append xs ys))

-- the first word of a line, and then the words that follow it, two times some of them
pub first_two_put : (old first : List ℕ) (xs ys : List (List ℕ)) → ((old ++ first) ++ after_words xs) ++ after_words ys ≡ old ++ joined (first ∷ (xs ++ ys))
first_two_put old first xs ys = two_put (old ++ first) xs ys ∙ first_put old first (xs ++ ys)

-- the first word of a line, and then the words that follow it, three times some of them
pub three_put : (old first : List ℕ) (xs ys zs : List (List ℕ)) → (((old ++ first) ++ after_words xs) ++ after_words ys) ++ after_words zs ≡ old ++ joined (first ∷ (xs ++ (ys ++ zs)))
three_put old first xs ys zs = two_put ((old ++ first) ++ after_words xs) ys zs ∙ first_two_put old first xs (ys ++ zs)

-- a line, and then more lines
pub line_put : (old : List ℕ) (words : List (List ℕ)) (lines : List (List (List ℕ))) → ((old ++ joined words) ++ 10 ∷ []) ++ spelling lines ≡ old ++ spelling (words ∷ lines)
line_put old words lines = append_assoc (old ++ joined words) (10 ∷ []) (spelling lines) ∙ append_assoc old (joined words) (10 ∷ spelling lines)

-- an empty line, some lines, and then more lines
pub lines_put : (old : List ℕ) (xs ys : List (List (List ℕ))) → ((old ++ 10 ∷ []) ++ spelling xs) ++ spelling ys ≡ old ++ spelling ([] ∷ (xs ++ ys))
lines_put old xs ys =
    append_assoc (old ++ 10 ∷ []) (spelling xs) (spelling ys)
    ∙ append_assoc old (10 ∷ []) (spelling xs ++ spelling ys)
    ∙ ap (λ rest. old ++ 10 ∷ rest) (sym (spelling_append xs ys))

-- the pieces of a section, one after another
pub section_put : (old start title events sightings answer close : List ℕ)
    → (((((old ++ start) ++ title) ++ events) ++ sightings) ++ answer) ++ close ≡ old ++ (((((start ++ title) ++ events) ++ sightings) ++ answer) ++ close)
section_put old start title events sightings answer close = simp append_assoc

-- a whole text, of which the last piece was put where there is an answer
pub put_last : {A E : Type 0} (result : Result A E) (new longer old whole : List ℕ) → longer ≡ whole → new ≡ (if is_ok result then longer else old) → OnOk result (new ≡ whole)
put_last (Ok x) new longer old whole same is = is ∙ same
put_last (Err e) new longer old whole same is = tt
