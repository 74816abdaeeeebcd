-- What the rule says of a single hand.
use Rattle.std.proofs.Common.{◌≡◌, refl, sym, ◌∙◌, ap, subst, ℕ, ◌+◌, ◌<◌, ◌≤◌, ◌==◌, min, List, [], length, count_by, sum_by, arith}
use mathlib.Core.Option.{some}
use lib.ListN.{get_elem?}
use Rattle.gp_tickets.specs.declared.hand.Hand.{Hand}
use Rattle.gp_tickets.specs.Hand.{IsSound, IsWhole, once_below}
use Rattle.gp_base.specs.SumLaws.{one_most, one_has_all}
use Rattle.gp_tickets.specs.Rule.{drawn_in, Fits, Kept, nones_in}

-- what is below the least of two is below the first
once_less : (number count most : ℕ) → once_below number (min count most) ≤ once_below number count
once_less number count most = grind arith

-- who stands for no drawer drew nothing
none_drawn : (count crew : ℕ) (hands : List Hand) (f : List ℕ → ℕ) → f [] ≡ 0 → ((seat : ℕ) (hand : Hand) → get_elem? hands seat ≡ some hand → Fits count crew hand)
    → (seat : ℕ) (hand : Hand) → get_elem? hands seat ≡ some hand → hand.drawers ≡ 0 → f hand.drawn ≡ 0
none_drawn count crew hands f empty fits seat hand at none = let nothing : hand.drawn ≡ [] = (fits seat hand at).idle none in let same : f hand.drawn ≡ f [] = ap f nothing in omega arith

-- the numbers that a hand with a drawer drew are below the count, and each was drawn once
pub sound : (count crew : ℕ) (words : List ℕ) (hands : List Hand) (seat : ℕ) (hand : Hand) → Kept count crew words hands → get_elem? hands seat ≡ some hand → 0 < hand.drawers → IsSound hand
sound count crew words hands seat hand kept at some_one =
    let same = (kept.fits seat hand at).same some_one in record {
      each = λ number.
          let most = one_most (λ (one : Hand). count_by (◌==◌ number) one.drawn) hands seat hand at in
          let less = once_less number count (drawn_in hands + nones_in hands) in
          let is = kept.each number in
          let P : ℕ → Type 0 = λ n. count_by (◌==◌ number) hand.drawn ≤ once_below number n in
          subst P (sym same.0) (omega arith);
      few =
          let most : length hand.drawn ≤ drawn_in hands = one_most (λ (one : Hand). length one.drawn) hands seat hand at in
          let is = kept.drawn in let own = same.0 in omega arith;
    }

-- one that stands for all drawers and was told that none is left has all numbers
pub whole : (count crew : ℕ) (words : List ℕ) (hands : List Hand) (seat : ℕ) (hand : Hand) → Kept count crew words hands → get_elem? hands seat ≡ some hand → 0 < hand.drawers
    → (0 < hand.nones → count ≤ drawn_in hands + nones_in hands) → IsWhole hand
whole count crew words hands seat hand kept at some_one past all told number =
    let same = (kept.fits seat hand at).same some_one in
    let parts : hand.drawers ≡ sum_by (λ (one : Hand). one.drawers) hands = omega (arith, all, same.1, kept.parts) in
    let only : sum_by (λ (one : Hand). count_by (◌==◌ number) one.drawn) hands ≡ count_by (◌==◌ number) hand.drawn =
    one_has_all (λ (one : Hand). count_by (◌==◌ number) one.drawn) (λ (one : Hand). one.drawers) hands seat hand at parts (none_drawn count crew hands (count_by (◌==◌ number)) refl kept.fits) in
    let is = kept.each number in
    let end : min count (drawn_in hands + nones_in hands) ≡ count = omega (arith, past told) in
    let P : ℕ → Type 0 = λ n. count_by (◌==◌ number) hand.drawn ≡ once_below number n in
    subst P (sym same.0) (sym only ∙ is ∙ ap (λ n. once_below number n) end)
