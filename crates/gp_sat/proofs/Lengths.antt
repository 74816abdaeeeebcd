-- A list of slots is no longer than there are slots, and its links tell how long it is.
use Rattle.std.proofs.Common.{◌≡◌, refl, sym, ◌∙◌, ap, subst, ℕ, ◌<◌, ◌≤◌, true, false, zero, suc, List, [], ◌∷◌, length, add-one, inl, inr, arith}
use Rattle.std.specs.List.{IsDistinct, list_any}
use Rattle.std.proofs.lemmas.Bool.{or_cases, eqb-true, ne_eqb}
use Rattle.std.proofs.lemmas.Map.Steps.{length-le_from_distinct_below}
use Rattle.std.specs.Prelude.{eqb, Contains}
use Rattle.gp_base.specs.ListLaws.{recursion_from_each, there}
use Rattle.gp_sat.specs.Links.{IsOnce, IsChain, steps}

distinct : (xs : List ℕ) → IsOnce xs → IsDistinct eqb xs
unfolding IsDistinct
distinct [] once = tt
distinct (x ∷ xs) once = (recursion_from_each (λ y. eqb x y ≡ false) xs (λ y among. ne_eqb x y (λ e. once.0 (subst (λ (n : ℕ). Contains xs n) (sym e) among))), distinct xs once.1)

any_in : (q : ℕ) (xs : List ℕ) → list_any (eqb q) xs ≡ true → Contains xs q
any_in q [] found = let clash : ⊥ = cc in absurd clash
any_in q (x ∷ xs) found = elim (or_cases (eqb q x) (list_any (eqb q) xs) found) [
  | inl same ↦ (0, omega arith, sym (eqb-true q x same))
  | inr later ↦ there _ _ _ (any_in q xs later)
]

-- slots below a bound, with none twice, are no more than the bound
pub once_few : (xs : List ℕ) (bound : ℕ) → IsOnce xs → ((x : ℕ) → Contains xs x → x < bound) → length xs ≤ bound
once_few xs bound once below = length-le_from_distinct_below xs bound (distinct xs once) (λ q found. below q (any_in q xs found))

-- the links lead over as many slots as the list has
pub steps_is : (next : ℕ → ℕ) (bound link : ℕ) (xs : List ℕ) → IsChain next link xs → length xs ≤ bound → steps next bound link ≡ length xs
steps_is next zero link [] chain few = refl
steps_is next (suc bound) link [] chain few = ap (λ (n : ℕ). steps next (suc bound) n) chain
steps_is next zero link (x ∷ xs) chain few = absurd (omega (arith, few))
steps_is next (suc bound) link (x ∷ xs) chain few =
    ap (λ (n : ℕ). steps next (suc bound) n) (chain.0 ∙ add-one x) ∙ ap suc (steps_is next bound (next x) xs chain.1 (omega (arith, few)))
