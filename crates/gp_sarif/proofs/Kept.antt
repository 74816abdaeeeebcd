-- Parts of an array that are put only where a test keeps them, and parts behind others.
use Rattle.std.proofs.Common.{◌≡◌, refl, sym, ap, ◌∙◌, ℕ, suc, ◌+◌, ◌<◌, Bool, true, false, cond, List, [], ◌∷◌, ◌++◌, drop, filter, get_or, length, map, add-one, drop-cons, append-nil, append_assoc, arith}
use Rattle.std.specs.List.{enumerate_from}
use Rattle.gp_json.specs.Json.{Json, elements_of, elements_text}
use Rattle.gp_window.specs.WindowForm.{numbers_from}

-- what is put of one thing, and then of those behind it
pub kept_more : {A : Type 0} (f : A → Json) (g : A → Bool) (text : List ℕ) (before : ℕ) (x : A) (rest : List A)
    → (text ++ elements_text before (elements_of (map f (filter g (x ∷ []))))) ++ elements_text (before + length (filter g (x ∷ []))) (elements_of (map f (filter g rest)))
    ≡ text ++ elements_text before (elements_of (map f (filter g (x ∷ rest))))
kept_more {A = A} f g text before x rest = at (g x)
  where
    at : (keeps : Bool)
        → (text ++ elements_text before (elements_of (map f (cond keeps (x ∷ []) [])))) ++ elements_text (before + length (cond keeps (x ∷ []) [])) (elements_of (map f (filter g rest)))
        ≡ text ++ elements_text before (elements_of (map f (cond keeps (x ∷ filter g rest) (filter g rest))))
    at true = simp append_assoc
    at false =
        let none : before + 0 ≡ before = omega arith in
        ap (λ (t : List ℕ). t ++ elements_text (before + 0) (elements_of (map f (filter g rest)))) (append-nil text)
        ∙ ap (λ n. text ++ elements_text n (elements_of (map f (filter g rest)))) none

-- a number, and those behind it
number_first : (n count left : ℕ) → count ≡ suc left → numbers_from n count ≡ n ∷ numbers_from (n + 1) left
number_first n count left is = ap (λ (k : ℕ). numbers_from n k) is

-- numbers of which each is put where it is kept: one more, and then those that are left
pub number_put : (f : ℕ → Json) (g : ℕ → Bool) (text whole : List ℕ) (before n count left : ℕ) → count ≡ suc left
    → text ++ elements_text before (elements_of (map f (filter g (numbers_from n count)))) ≡ whole
    → (text ++ elements_text before (elements_of (map f (filter g (n ∷ []))))) ++ elements_text (before + length (filter g (n ∷ []))) (elements_of (map f (filter g (numbers_from (n + 1) left)))) ≡ whole
number_put f g text whole before n count left is all =
    kept_more f g text before n (numbers_from (n + 1) left)
    ∙ ap (λ (ns : List ℕ). text ++ elements_text before (elements_of (map f (filter g ns)))) (sym (number_first n count left is))
    ∙ all

-- what stands at a place, and what stands after it, each with its number
numbered_first : {A : Type 0} (xs : List A) (x : A) (i n : ℕ) → i < length xs → x ≡ get_or xs i x
    → enumerate_from n (drop i xs) ≡ (n, x) ∷ enumerate_from (n + 1) (drop (i + 1) xs)
numbered_first {A = A} xs x i n below is =
    let cut : drop i xs ≡ x ∷ drop (i + 1) xs = rw (add-one, drop-cons xs i x below, ← is) refl in
    ap (λ (left : List A). enumerate_from n left) cut

-- numbered things of which each is put where it is kept: one more, and then those that are left
pub numbered_put : {A : Type 0} (f : ℕ × A → Json) (g : ℕ × A → Bool) (text whole : List ℕ) (before : ℕ) (xs : List A) (x : A) (i n : ℕ)
    → i < length xs → x ≡ get_or xs i x
    → text ++ elements_text before (elements_of (map f (filter g (enumerate_from n (drop i xs))))) ≡ whole
    → (text ++ elements_text before (elements_of (map f (filter g ((n, x) ∷ []))))) ++ elements_text (before + length (filter g ((n, x) ∷ []))) (elements_of (map f (filter g (enumerate_from (n + 1) (drop (i + 1) xs))))) ≡ whole
numbered_put {A = A} f g text whole before xs x i n below is all =
    kept_more f g text before (n, x) (enumerate_from (n + 1) (drop (i + 1) xs))
    ∙ ap (λ (ns : List (ℕ × A)). text ++ elements_text before (elements_of (map f (filter g ns)))) (sym (numbered_first xs x i n below is))
    ∙ all
