-- Laws: lines that are put one after another, and the first line of a list.
use Rattle.std.proofs.Common.{◌≡◌, refl, ℕ, zero, suc, ◌+◌, ◌<◌, ◌≤◌, get_or, min, length, take, drop, add-one, drop-cons, List, [], ◌∷◌, ◌++◌, ap, ◌∙◌, sym, append_assoc, arith, length-drop, length-append}
use Rattle.std.specs.List.{flat_map}
use Rattle.std.proofs.lemmas.List.{drop_at, drop_min, take_at, take_min}
use Rattle.gp_text.specs.Spelling.{spelling}
use Rattle.gp_text.specs.SpellingLaws.{spelling_append}
use Rattle.gp_writer.specs.Lines.{in_lines, lines_up_to}

-- lines, and then more lines
pub lines_put : (old : List ℕ) (xs ys : List (List (List ℕ))) → (old ++ spelling xs) ++ spelling ys ≡ old ++ spelling (xs ++ ys)
lines_put old xs ys = append_assoc old (spelling xs) (spelling ys) ∙ ap (λ rest. old ++ rest) (sym (spelling_append xs ys))

-- what stands at a place, and what stands after it
pub cut : {A : Type 0} (xs : List A) (x : A) (i : ℕ) → i < length xs → x ≡ get_or xs i x → drop i xs ≡ x ∷ drop (i + 1) xs
cut xs x i below is = rw (add-one, drop-cons xs i x below, ← is) refl

-- the lines of one thing more, and then those of the things that are left
pub one_more : {A : Type 0} (f : A → List (List (List ℕ))) (text whole : List ℕ) (xs : List A) (x : A) (i : ℕ)
    → i < length xs → x ≡ get_or xs i x
    → text ++ spelling (flat_map f (drop i xs)) ≡ whole
    → (text ++ spelling (f x)) ++ spelling (flat_map f (drop (i + 1) xs)) ≡ whole
one_more f text whole xs x i below is all =
    lines_put text (f x) (flat_map f (drop (i + 1) xs))
    ∙ ap (λ left. text ++ spelling (flat_map f left)) (sym (cut xs x i below is))
    ∙ all

-- as many lines as there are words are enough
enough : (n m : ℕ) (words : List (List ℕ)) → length words ≤ n → length words ≤ m → lines_up_to n words ≡ lines_up_to m words
enough zero zero words few less = refl
enough zero (suc m) [] few less = refl
enough zero (suc m) (word ∷ words) few less = absurd (omega arith)
enough (suc n) zero [] few less = refl
enough (suc n) zero (word ∷ words) few less = absurd (omega arith)
enough (suc n) (suc m) [] few less = refl
enough (suc n) (suc m) (word ∷ words) few less =
    let left = length-drop 99 words in
    ap (λ lines. take 100 (word ∷ words) ∷ lines) (enough n m (drop 99 words) (omega arith) (omega arith))

-- the first line of a list, and the others
pub cut_line : (words line rest : List (List ℕ)) → words ≡ line ++ rest → length line ≡ min 100 (length words) → 0 < length words → in_lines words ≡ line ∷ in_lines rest
cut_line [] line rest whole full some = absurd (omega arith)
cut_line (word ∷ words) line rest whole full some =
    let first : take 100 (word ∷ words) ≡ line =
    sym (take_min 100 (word ∷ words)) ∙ ap (λ n. take n (word ∷ words)) (sym full) ∙ ap (take (length line)) whole ∙ take_at line rest (length line) refl in
    let others : drop 100 (word ∷ words) ≡ rest =
    sym (drop_min 100 (word ∷ words)) ∙ ap (λ n. drop n (word ∷ words)) (sym full) ∙ ap (drop (length line)) whole ∙ drop_at line rest (length line) refl in
    let size : suc (length words) ≡ length line + length rest = ap length whole ∙ length-append line rest in
    ap (λ front. front ∷ lines_up_to (length words) (drop 100 (word ∷ words))) first
    ∙ ap (λ back. line ∷ lines_up_to (length words) back) others
    ∙ ap (λ lines. line ∷ lines) (enough (length words) (length rest) rest (omega arith) (omega arith))
