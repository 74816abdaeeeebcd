-- Tests of each element and of each two, of joined tests and of joined lists.
use Rattle.std.proofs.Common.{◌≡◌, refl, ap, ◌∙◌, sym, Bool, true, List, [], ◌∷◌, ◌++◌}
use Rattle.std.specs.Prelude.{◌&&◌}
use Rattle.std.specs.List.{list_all, flat_map}
use Rattle.std.proofs.lemmas.List.Folds.{list_all-append}
use Rattle.gp_instance.specs.Pairs.{all_pairs}
use Rattle.gp_instance.proofs.Bools.{both_tests, four_tests}

-- two tests of each element
pub list_all_both : {A : Type 0} (p q : A → Bool) (xs : List A) → list_all (λ x. p x && q x) xs ≡ (list_all p xs && list_all q xs)
list_all_both p q [] = refl
list_all_both p q (x ∷ xs) = ap (λ rest. (p x && q x) && rest) (list_all_both p q xs) ∙ both_tests (p x) (q x) (list_all p xs) (list_all q xs)

-- two tests of each two elements
pub all_pairs_both : {A : Type 0} (p q : A → A → Bool) (xs : List A) → all_pairs (λ x y. p x y && q x y) xs ≡ (all_pairs p xs && all_pairs q xs)
all_pairs_both p q [] = refl
all_pairs_both p q (x ∷ xs) =
    ap (λ first. first && all_pairs (λ y z. p y z && q y z) xs) (list_all_both (p x) (q x) xs)
    ∙ ap (λ rest. (list_all (p x) xs && list_all (q x) xs) && rest) (all_pairs_both p q xs)
    ∙ both_tests (list_all (p x) xs) (list_all (q x) xs) (all_pairs p xs) (all_pairs q xs)

-- a test of joined lists
pub list_all-flat_map : {A B : Type 0} (p : B → Bool) (f : A → List B) (xs : List A) → list_all p (flat_map f xs) ≡ list_all (λ x. list_all p (f x)) xs
list_all-flat_map p f [] = refl
list_all-flat_map p f (x ∷ xs) = list_all-append p (f x) (flat_map f xs) ∙ ap (λ rest. list_all p (f x) && rest) (list_all-flat_map p f xs)

-- each of some elements with each of others
abbrev pub all_across : {A : Type 0} → (A → A → Bool) → List A → List A → Bool
all_across test xs ys = list_all (λ x. list_all (test x) ys) xs

-- a test of each two of two lists
pub all_pairs-append : {A : Type 0} (test : A → A → Bool) (xs ys : List A) → all_pairs test (xs ++ ys) ≡ ((all_pairs test xs && all_across test xs ys) && all_pairs test ys)
all_pairs-append test [] ys = refl
all_pairs-append test (x ∷ xs) ys =
    ap (λ first. first && all_pairs test (xs ++ ys)) (list_all-append (test x) xs ys)
    ∙ ap (λ rest. (list_all (test x) xs && list_all (test x) ys) && rest) (all_pairs-append test xs ys)
    ∙ four_tests (list_all (test x) xs) (list_all (test x) ys) (all_pairs test xs) (all_across test xs ys) (all_pairs test ys)

-- a test that all pass
pub all_true : {A : Type 0} (xs : List A) → list_all (λ x. true) xs ≡ true
all_true [] = refl
all_true (x ∷ xs) = all_true xs

-- some elements with each of joined lists
pub all_across-flat_map : {A B : Type 0} (test : B → B → Bool) (f : A → List B) (ones : List B) (xs : List A) → all_across test ones (flat_map f xs) ≡ list_all (λ x. all_across test ones (f x)) xs
all_across-flat_map test f [] xs = sym (all_true xs)
all_across-flat_map test f (one ∷ ones) xs =
    ap (λ first. first && all_across test ones (flat_map f xs)) (list_all-flat_map (test one) f xs)
    ∙ ap (λ rest. list_all (λ x. list_all (test one) (f x)) xs && rest) (all_across-flat_map test f ones xs)
    ∙ sym (list_all_both (λ x. list_all (test one) (f x)) (λ x. all_across test ones (f x)) xs)

-- a test of each two of joined lists
pub all_pairs-flat_map : {A B : Type 0} (test : B → B → Bool) (f : A → List B) (xs : List A)
    → all_pairs test (flat_map f xs) ≡ (list_all (λ x. all_pairs test (f x)) xs && all_pairs (λ x y. all_across test (f x) (f y)) xs)
all_pairs-flat_map test f [] = refl
all_pairs-flat_map test f (x ∷ xs) =
    all_pairs-append test (f x) (flat_map f xs)
    ∙ ap (λ across. (all_pairs test (f x) && across) && all_pairs test (flat_map f xs)) (all_across-flat_map test f (f x) xs)
    ∙ ap (λ rest. (all_pairs test (f x) && list_all (λ y. all_across test (f x) (f y)) xs) && rest) (all_pairs-flat_map test f xs)
    ∙ both_tests (all_pairs test (f x)) (list_all (λ y. all_across test (f x) (f y)) xs) (list_all (λ y. all_pairs test (f y)) xs) (all_pairs (λ y z. all_across test (f y) (f z)) xs)

-- two tests that agree at each element
pub list_all_agree : {A : Type 0} (p q : A → Bool) → ((x : A) → p x ≡ q x) → (xs : List A) → list_all p xs ≡ list_all q xs
list_all_agree p q same [] = refl
list_all_agree p q same (x ∷ xs) = ap (λ first. first && list_all p xs) (same x) ∙ ap (λ rest. q x && rest) (list_all_agree p q same xs)
