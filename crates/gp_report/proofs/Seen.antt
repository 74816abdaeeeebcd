-- What is seen of each element of a list, one after another.
use Rattle.std.proofs.Common.{◌≡◌, refl, sym, subst, ℕ, zero, suc, ◌+◌, ◌<◌, get_or, length, drop, List, [], ◌∷◌, All, arith}
use Rattle.std.specs.List.{flat_map}
use Rattle.std.proofs.lemmas.List.Elements.{All-append, All-cons}
use Rattle.gp_writer.specs.LinesLaws.{cut}

-- what holds of all elements where it holds of those from one on, does so where it holds of those behind this one
pub one_seen : {A : Type 0} (P : A → Type 0) (xs : List A) (x : A) (i : ℕ)
    → i < length xs → x ≡ get_or xs i x → P x → (All P (drop i xs) → All P xs) → All P (drop (i + 1) xs) → All P xs
one_seen P xs x i below is holds before rest = before (subst (λ ys. All P ys) (sym (cut xs x i below is)) (All-cons P x (drop (i + 1) xs) holds rest))

-- the same of the parts of each element
pub one_part_seen : {A B : Type 0} (P : A → Type 0) (f : B → List A) (xs : List B) (x : B) (i : ℕ)
    → i < length xs → x ≡ get_or xs i x → All P (f x) → (All P (flat_map f (drop i xs)) → All P (flat_map f xs)) → All P (flat_map f (drop (i + 1) xs)) → All P (flat_map f xs)
one_part_seen P f xs x i below is holds before rest =
    before (subst (λ ys. All P (flat_map f ys)) (sym (cut xs x i below is)) (All-append P (f x) (flat_map f (drop (i + 1) xs)) holds rest))

-- what stands at a place stands there whatever is named for no place
pub got_again : {A : Type 0} (xs : List A) (i : ℕ) (d : A) → i < length xs → get_or xs i d ≡ get_or xs i (get_or xs i d)
got_again [] i d below = absurd (omega (arith, below))
got_again (x ∷ xs) zero d below = refl
got_again (x ∷ xs) (suc i) d below = got_again xs i d (omega (arith, below))
