-- Laws: parts of an array or of an object one after another.
use Rattle.std.proofs.Common.{◌≡◌, refl, sym, ap, ◌∙◌, ℕ, ◌+◌, ◌<◌, List, [], ◌∷◌, ◌++◌, length, get_or, drop, add-one, drop-cons, append_assoc, arith}
use Rattle.std.specs.Prelude.{map}
use Rattle.gp_json.specs.Json.{Json, Named, comma, elements_of, elements_text, json_text, members_of, members_text, name_text}

-- what stands at a place, and what stands after it
cut : {A : Type 0} (xs : List A) (x : A) (i : ℕ) → i < length xs → x ≡ get_or xs i x → drop i xs ≡ x ∷ drop (i + 1) xs
cut xs x i below is = rw (add-one, drop-cons xs i x below, ← is) refl

-- an element, and then those that follow it
pub element_put : (text : List ℕ) (before : ℕ) (json : Json) (rest : List Json)
    → ((text ++ comma before) ++ json_text json) ++ elements_text (before + 1) (elements_of rest) ≡ text ++ elements_text before (elements_of (json ∷ rest))
element_put text before json rest = simp append_assoc

-- elements, and then more elements
pub elements_append : (before : ℕ) (xs ys : List Json)
    → elements_text before (elements_of (xs ++ ys)) ≡ elements_text before (elements_of xs) ++ elements_text (before + length xs) (elements_of ys)
elements_append before [] ys = let none : before ≡ before + 0 = omega arith in ap (λ n. elements_text n (elements_of ys)) none
elements_append before (x ∷ xs) ys =
    let more : before + 1 + length xs ≡ before + length (x ∷ xs) = omega arith in
    ap (λ rest. comma before ++ json_text x ++ rest) (elements_append (before + 1) xs ys)
    ∙ ap (λ n. comma before ++ json_text x ++ (elements_text (before + 1) (elements_of xs) ++ elements_text n (elements_of ys))) more
    ∙ simp append_assoc

-- members, and then more members
pub members_append : (before : ℕ) (xs ys : List Named)
    → members_text before (members_of (xs ++ ys)) ≡ members_text before (members_of xs) ++ members_text (before + length xs) (members_of ys)
members_append before [] ys = let none : before ≡ before + 0 = omega arith in ap (λ n. members_text n (members_of ys)) none
members_append before (x ∷ xs) ys =
    let more : before + 1 + length xs ≡ before + length (x ∷ xs) = omega arith in
    ap (λ rest. comma before ++ name_text x.name ++ json_text x.value ++ rest) (members_append (before + 1) xs ys)
    ∙ ap (λ n. comma before ++ name_text x.name ++ json_text x.value ++ (members_text (before + 1) (members_of xs) ++ members_text n (members_of ys))) more
    ∙ simp append_assoc

-- an array of what a function gives of each thing of a list: one thing more, and then those that are left
pub one_more : {A : Type 0} (f : A → Json) (text whole : List ℕ) (xs : List A) (x : A) (i : ℕ)
    → i < length xs → x ≡ get_or xs i x
    → text ++ elements_text i (elements_of (map f (drop i xs))) ≡ whole
    → ((text ++ comma i) ++ json_text (f x)) ++ elements_text (i + 1) (elements_of (map f (drop (i + 1) xs))) ≡ whole
one_more {A = A} f text whole xs x i below is all =
    element_put text i (f x) (map f (drop (i + 1) xs))
    ∙ ap (λ (left : List A). text ++ elements_text i (elements_of (map f left))) (sym (cut xs x i below is))
    ∙ all
