-- In a permutation of a list whose numbers rise, no number stands twice.
use Rattle.std.proofs.Common.{◌≢◌, ℕ, zero, suc, ◌<◌, ◌==◌, List, [], ◌∷◌, length, get_or, IsPermutation, arith, add-one}
use Rattle.std.specs.List.{AllAdjacentBelow}
use Rattle.std.proofs.lemmas.List.Elements.{All-from_recursion}
use Rattle.gp_base.specs.CountLaws.{count_permuted, once_from_rising, twice_from_places}
use Rattle.gp_base.specs.ListLaws.{Pairwise}

-- where each number is less than all later ones, it is less than the next
next_is_greater : {X : Type 0} (f : X → ℕ) (xs : List X) → Pairwise (λ one other. f one < f other) xs → AllAdjacentBelow (λ one other. f one < f other) xs (length xs)
next_is_greater f [] rising k d within = absurd (omega (arith, within))
next_is_greater f (x ∷ xs) rising zero d within = All-from_recursion (λ other. f x < f other) xs rising.0 0 d (omega (arith, within))
next_is_greater f (x ∷ xs) rising (suc k) d within = rw (add-one (suc k), ← add-one k) (next_is_greater f xs rising.1 k d (omega (arith, within)))

-- in a permutation of a list whose numbers rise, two places have different numbers
pub apart : {X : Type 0} (f : X → ℕ) (xs ys : List X) → Pairwise (λ one other. f one < f other) xs → IsPermutation xs ys
    → (i j : ℕ) (d : X) → i < j → j < length ys → f (get_or ys i d) ≢ f (get_or ys j d)
apart f xs ys rising moved i j d before within same =
    let n : ℕ = f (get_or ys j d) in
    let as_often = count_permuted (λ x. f x == n) xs ys moved in
    absurd (omega (arith, twice_from_places f ys i j d before within same, as_often, once_from_rising f n xs (next_is_greater f xs rising)))
