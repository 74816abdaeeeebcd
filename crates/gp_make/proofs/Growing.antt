-- Lines that are put behind others, a thing after the other.
use Rattle.std.proofs.Common.{◌≡◌, refl, sym, ap, ◌∙◌, ℕ, ◌+◌, List, [], ◌∷◌, ◌++◌, append_assoc, append-nil, map}
use Rattle.std.specs.List.{flat_map, range_with_len}
use Rattle.std.proofs.lemmas.List.FromFn.{map-range_with_len_more}
use Rattle.std.proofs.lemmas.List.Concat.{flat_map-append}
use Rattle.gp_text.specs.Spelling.{spelling}
use Rattle.gp_text.specs.SpellingLaws.{spelling_append}

-- lines, and then more lines
pub lines_put : (old : List ℕ) (xs ys : List (List (List ℕ))) → (old ++ spelling xs) ++ spelling ys ≡ old ++ spelling (xs ++ ys)
lines_put old xs ys = append_assoc old (spelling xs) (spelling ys) ∙ ap (λ rest. old ++ rest) (sym (spelling_append xs ys))

map_id : {A : Type 0} (xs : List A) → map (λ x. x) xs ≡ xs
map_id [] = refl
map_id (x ∷ xs) = ap (λ rest. x ∷ rest) (map_id xs)

-- one number more
pub range_more : (a n j : ℕ) → a + n ≡ j → range_with_len a (n + 1) ≡ range_with_len a n ++ j ∷ []
range_more a n j is =
    sym (map_id (range_with_len a (n + 1))) ∙ map-range_with_len_more (λ k. k) a n j is ∙ ap (λ front. front ++ j ∷ []) (map_id (range_with_len a n))

-- what the next number gives, after what the numbers before it gave
pub flat_more : {A : Type 0} (f : ℕ → List A) (a n j : ℕ) → a + n ≡ j → flat_map f (range_with_len a (n + 1)) ≡ flat_map f (range_with_len a n) ++ f j
flat_more f a n j is =
    ap (flat_map f) (range_more a n j is) ∙ flat_map-append f (range_with_len a n) (j ∷ []) ∙ ap (λ last. flat_map f (range_with_len a n) ++ last) (append-nil (f j))

-- the lines of the next number, after those of the numbers before it
pub one_more : (f : ℕ → List (List (List ℕ))) (old text : List ℕ) (a n j : ℕ) → a + n ≡ j
    → text ≡ old ++ spelling (flat_map f (range_with_len a n))
    → text ++ spelling (f j) ≡ old ++ spelling (flat_map f (range_with_len a (n + 1)))
one_more f old text a n j next before =
    ap (λ front. front ++ spelling (f j)) before
    ∙ lines_put old (flat_map f (range_with_len a n)) (f j)
    ∙ ap (λ lines. old ++ spelling lines) (sym (flat_more f a n j next))

-- the lines of all numbers
pub all_put : (f : ℕ → List (List (List ℕ))) (old text : List ℕ) (a n count : ℕ) → n ≡ count
    → text ≡ old ++ spelling (flat_map f (range_with_len a n)) → text ≡ old ++ spelling (flat_map f (range_with_len a count))
all_put f old text a n count is put = put ∙ ap (λ k. old ++ spelling (flat_map f (range_with_len a k))) is
