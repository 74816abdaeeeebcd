-- The steps on the word, as the table asks for them.
use Rattle.std.proofs.Common.{◌≡◌, refl, sym, ap, subst, ℕ, ◌+◌, ◌%◌, ◌^◌, ◌<◌, ◌≤◌, Bool, true, false, List, [], ◌∷◌, nat_lt, set, if◌then◌else◌, sum_by, arith}
use Rattle.std.specs.List.{slice_index}
use Rattle.std.proofs.Math.Nat.{mod-eq_of_lt}
use Rattle.std.proofs.lemmas.List.{set-get_or}
use Rattle.std.proofs.lemmas.Bool.{ltb-false, ltb-true}
use mathlib.Core.Option.{some}
use lib.ListN.{get_elem?}
use Rattle.atomic_table.proofs.Lists.{set_again, set_here}
use Rattle.atomic_table.specs.Table.{Allows, Joins, keeps, Me, Splits, State}
use Rattle.gp_tickets.specs.declared.hand.Hand.{Hand}
use Rattle.gp_tickets.specs.Hand.{Draws, drew, IsSound, IsWhole, joined, left_of, one_of, spent, told_none}
use Rattle.gp_base.specs.SumLaws.{one_most, sum_least, stands_within}
use Rattle.gp_tickets.specs.Rule.{drawn_in, Kept, nones_in}
use Rattle.gp_tickets.proofs.Hands.{sound, whole}
use Rattle.gp_tickets.proofs.Moves.{keeps_drawn, keeps_join, keeps_none, keeps_split}

abbrev pub Holds : ℕ → ℕ → State ℕ Hand → Type 0
Holds count crew s = Kept count crew s.words s.views

-- what a hand after a step learns
learns : (count crew : ℕ) (words : List ℕ) (hands : List Hand) (seat : ℕ) (hand : Hand) → Kept count crew words hands → get_elem? hands seat ≡ some hand → 0 < hand.drawers → IsSound hand × IsWhole hand
learns count crew words hands seat hand kept at some_one = (
  sound count crew words hands seat hand kept at some_one,
  whole count crew words hands seat hand kept at some_one (λ told.
      let most : hand.nones ≤ nones_in hands = one_most (λ (one : Hand). one.nones) hands seat hand at in
      let is = kept.drawn in omega (arith, most, told, is)),
)

-- how many draws there were, at most
few_draws : (count crew : ℕ) (words : List ℕ) (hands : List Hand) → Kept count crew words hands → drawn_in hands + nones_in hands + 1 < 2 ^ 64
few_draws count crew words hands kept =
    let most : nones_in hands ≤ sum_by (λ (one : Hand). one.drawers) hands = sum_least (λ (one : Hand). one.nones) (λ (one : Hand). one.drawers) hands (λ seat one at. (kept.fits seat one at).few) in
    omega (arith, most, kept.drawn, kept.parts, kept.small.0, kept.small.1)

-- a draw, by whether a number is left
draw_by : (count crew : ℕ) (words : List ℕ) (hands : List Hand) (seat : ℕ) (hand : Hand) → Kept count crew words hands → get_elem? hands seat ≡ some hand → hand.nones < hand.drawers
    → (found : ℕ) → drawn_in hands + nones_in hands ≡ found → (b : Bool) → nat_lt found hand.count ≡ b → Kept count crew ((found + 1) ∷ []) (set hands seat (if b then drew hand found else told_none hand))
draw_by count crew words hands seat hand kept at unfinished found is true less =
    let below : found < hand.count = ltb-true found hand.count less in
    let same : hand.count ≡ count = ((kept.fits seat hand at).same (omega (arith, unfinished))).0 in
    keeps_drawn count crew words hands seat hand kept at unfinished found is (omega (arith, below, same))
draw_by count crew words hands seat hand kept at unfinished found is false more =
    let past : hand.count ≤ found = ltb-false found hand.count more in
    let same : hand.count ≡ count = ((kept.fits seat hand at).same (omega (arith, unfinished))).0 in
    keeps_none count crew words hands seat hand kept at unfinished found is (omega (arith, past, same))

-- who draws stands for as many drawers as before
still_one : (hand : Hand) (found : ℕ) (b : Bool) → 0 < hand.drawers → 0 < (if b then drew hand found else told_none hand).drawers
still_one hand found true some_one = some_one
still_one hand found false some_one = some_one

-- the words after a draw, and what it tells
draw_at : (count crew : ℕ) (words : List ℕ) (hands : List Hand) (seat : ℕ) (hand : Hand) → Kept count crew words hands → get_elem? hands seat ≡ some hand → hand.nones < hand.drawers
    → (found : ℕ) → drawn_in hands + nones_in hands ≡ found → Kept count crew (((found + 1) % 2 ^ 64) ∷ []) (set hands seat (if nat_lt found hand.count then drew hand found else told_none hand))
    × Draws hand found (if nat_lt found hand.count then drew hand found else told_none hand)
draw_at count crew words hands seat hand kept at unfinished found is =
    let next : Hand = if nat_lt found hand.count then drew hand found else told_none hand in
    let keeps : Kept count crew ((found + 1) ∷ []) (set hands seat next) = draw_by count crew words hands seat hand kept at unfinished found is (nat_lt found hand.count) refl in
    let here : get_elem? (set hands seat next) seat ≡ some next = set_here hands seat next (stands_within hands seat hand at) in
    let told = learns count crew ((found + 1) ∷ []) (set hands seat next) seat next keeps here (still_one hand found (nat_lt found hand.count) (omega (arith, unfinished))) in
    let small : found + 1 < 2 ^ 64 = omega (arith, is, few_draws count crew words hands kept) in (
      subst (λ n. Kept count crew (n ∷ []) (set hands seat next)) (sym (mod-eq_of_lt small)) keeps,
      record { is = refl; sound = told.0; whole = told.1 },
    )

-- a draw, as the table asks for it
pub draws : (count crew slots seat : ℕ) (me : Me ℕ Hand) → me.0.nones < me.0.drawers
    → Allows (Holds count crew) slots seat me 0 (λ n. (n + 1) % 2 ^ 64) (λ found after. Draws me.0 found after.0 × (after.1 ≡ me.1))
draws count crew slots seat me unfinished s kept homes at fits =
    let both = draw_at count crew s.words s.views seat me.0 kept at unfinished (slice_index s.words 0) (sym (ap (λ (ns : List ℕ). slice_index ns 0) kept.word)) in (
      (if nat_lt (slice_index s.words 0) me.0.count then drew me.0 (slice_index s.words 0) else told_none me.0),
      keeps,
      tt,
      subst (λ (ns : List ℕ). Kept count crew ns (set s.views seat (if nat_lt (slice_index s.words 0) me.0.count then drew me.0 (slice_index s.words 0) else told_none me.0)))
          (sym (ap (λ (ns : List ℕ). set ns 0 ((slice_index s.words 0 + 1) % 2 ^ 64)) kept.word)) both.0,
      (both.1, refl),
    )

-- a look changes nothing
pub looks : (count crew slots seat : ℕ) (me : Me ℕ Hand) → 0 < me.0.drawers
    → Allows (Holds count crew) slots seat me 0 (λ n. n) (λ found after. (after.0 ≡ me.0) × IsSound after.0 × IsWhole after.0 × (after.1 ≡ me.1))
looks count crew slots seat me some_one s kept homes at fits =
    let told = learns count crew s.words s.views seat me.0 kept at some_one in (
      me.0,
      keeps,
      tt,
      subst (λ (hs : List Hand). Kept count crew (set s.words 0 (slice_index s.words 0)) hs) (sym (set_again s.views seat me.0 at))
          (subst (λ (ns : List ℕ). Kept count crew ns s.views) (sym (set-get_or s.words 0 0)) kept),
      (refl, told.0, told.1, refl),
    )

-- a drawer is handed over
pub splits : (count crew seat : ℕ) (hand : Hand) → 1 < hand.drawers → hand.nones ≡ 0 → Splits (Holds count crew) seat hand (left_of hand) (one_of hand)
splits count crew seat hand several unfinished s kept at = keeps_split count crew s.words s.views seat hand kept at several unfinished

-- two drawers become one
pub joins : (count crew seat : ℕ) (hand : Hand) (other : ℕ) (one : Hand) → 0 < hand.drawers → Joins (Holds count crew) seat hand other one (joined hand one) spent
joins count crew seat hand other one some_one s kept at apart there = keeps_join count crew s.words s.views seat other hand one kept at some_one apart there
