-- The numbers that stand beside places.
use Rattle.std.proofs.Common.{◌≡◌, ℕ, ◌<◌, ◌≤◌, ◌==◌, inl, inr, Result, Ok, Err, List, length, get_or, refl, sym, ap, subst, arith}
use Rattle.std.specs.Prelude.{AllPairs, IsOk, MatchResult}
use Rattle.std.specs.List.{position_or_len}
use Rattle.std.proofs.lemmas.Bool.{cases_eq, cases_lt, eq-eqb, ne_eqb}
use Rattle.std.proofs.lemmas.List.Sums.{position_or_len_is}
use Rattle.gp_derivation.specs.Numbering.{HasNumber, number_beside}

-- what a search among places says
abbrev pub Finds : List ℕ → ℕ → Result ℕ ℕ → Type 0
Finds places place r = MatchResult r (λ i. (i < length places) × (get_or places i 0 ≡ place)) (λ i. (i ≤ length places) × ((k : ℕ) → k < i → get_or places k 0 < place) × ((k : ℕ) → i ≤ k → k < length places → place < get_or places k 0))

-- places that rise do not fall
pub rising_far : (places : List ℕ) → AllPairs (λ (a b : ℕ). a < b) places → (i j : ℕ) → i ≤ j → j < length places → get_or places i 0 ≤ get_or places j 0
rising_far places rising i j before within = elim (cases_eq i j) [
  | inl same ↦ omega (arith, ap (λ (n : ℕ). get_or places n 0) same)
  | inr differ ↦ omega (arith, rising i j 0 (omega (arith, before, differ)) within)
]

-- a place with a number is found
pub found_one : (places numbers : List ℕ) (place : ℕ) (r : Result ℕ ℕ) → HasNumber places numbers place → Finds places place r → IsOk r
found_one places numbers place (Ok at) has finds = refl
found_one places numbers place (Err at) has finds = elim (cases_lt has.0 at) [
  | inl before ↦ absurd (omega (arith, finds.1 has.0 before, has.3))
  | inr after ↦ absurd (omega (arith, finds.2 has.0 after has.1, has.3))
]

-- and stands where the search says
pub found_at : (places : List ℕ) (place at : ℕ) (r : Result ℕ ℕ) → r ≡ Ok at → Finds places place r → (at < length places) × (get_or places at 0 ≡ place)
found_at places place at r is finds = let P : Result ℕ ℕ → Type 0 = λ x. Finds places place x in subst P is finds

-- two places that are the same stand at one place
pub one_place : (places : List ℕ) → AllPairs (λ (a b : ℕ). a < b) places → (i j : ℕ) → i < length places → j < length places → get_or places i 0 ≡ get_or places j 0 → i ≡ j
one_place places rising i j first second same = elim (cases_lt i j) [
  | inl before ↦ absurd (omega (arith, rising i j 0 before second, same))
  | inr after ↦ elim (cases_lt j i) [
    | inl later ↦ absurd (omega (arith, rising j i 0 later first, same))
    | inr least ↦ omega (arith, after, least)
  ]
]

-- the number beside a place is that at its own place
pub number_at : (places numbers : List ℕ) (place at : ℕ) → AllPairs (λ (a b : ℕ). a < b) places → at < length places → get_or places at 0 ≡ place → get_or numbers at 0 ≡ number_beside places numbers place
number_at places numbers place at rising within is =
    let there : position_or_len (λ (other : ℕ). other == place) places ≡ at = position_or_len_is (λ (other : ℕ). other == place) places at 0 (omega (arith, within))
    (λ k before. ne_eqb (get_or places k 0) place (λ same. omega (arith, rising k at 0 before within, same, is)))
    (λ inside. eq-eqb (get_or places at 0) place is) in
    sym (ap (λ (n : ℕ). get_or numbers n 0) there)
