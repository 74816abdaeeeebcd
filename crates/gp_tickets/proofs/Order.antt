-- Elements that are sorted by a number, where each number of a row stands once, have the numbers of the row in order.
use Rattle.std.proofs.Common.{◌≡◌, refl, sym, ◌∙◌, ap, ℕ, zero, suc, ◌+◌, ◌<◌, ◌≤◌, ◌==◌, Bool, true, false, List, [], ◌∷◌, length, map, count_by, cond, nat_lt, get_or, if◌then◌else◌, eq-eqb, eqb-true, arith}
use Rattle.std.specs.List.{range_with_len}
use Rattle.std.specs.List.Sorted.{IsNonDecreasingBy}
use Rattle.gp_base.specs.SumLaws.{count_cons}
use Rattle.gp_tickets.specs.Hand.{once_below}

-- once for each of so many numbers from the first on
abbrev pub in_row : ℕ → ℕ → ℕ → ℕ
in_row first count number = if nat_lt number first then 0 else (if nat_lt number (first + count) then 1 else 0)

row_from : (first count number : ℕ) → 0 < in_row first count number → first ≤ number
row_from first count number some = grind arith

row_first : (first count : ℕ) → in_row first (suc count) first ≡ 1
row_first first count = grind arith

row_none : (first number : ℕ) → in_row first 0 number ≡ 0
row_none first number = grind arith

row_step : (first count number : ℕ) → in_row first (suc count) number ≡ (if number == first then 1 else 0) + in_row (first + 1) count number
row_step first count number = grind arith

pub row_below : (count number : ℕ) → once_below number count ≡ in_row 0 count number
row_below count number = grind arith

-- a number stands at the head once more than behind it
count_here : (number : ℕ) (rest : List ℕ) → count_by (◌==◌ number) (number ∷ rest) ≡ 1 + count_by (◌==◌ number) rest
count_here number rest = count_cons (◌==◌ number) number rest ∙ ap (λ b. cond b 1 0 + count_by (◌==◌ number) rest) (eq-eqb number number refl)

module _ {X : Type 0} (key : X → ℕ) where
  -- a number that is there has a place
  found_by : (number : ℕ) (x : X) (xs : List X) (b : Bool) → (number == key x) ≡ b → ((0 < count_by (◌==◌ number) (map key xs)) → (i : ℕ) × (i < length xs) × ((d : X) → key (get_or xs i d) ≡ number))
      → 0 < (if b then 1 else 0) + count_by (◌==◌ number) (map key xs) → (i : ℕ) × (i < length (x ∷ xs)) × ((d : X) → key (get_or (x ∷ xs) i d) ≡ number)
  found_by number x xs true is later some = (0, omega arith, λ d. sym (eqb-true number (key x) is))
  found_by number x xs false is later some = let rest = later (omega (arith, some)) in (suc rest.0, omega (arith, rest.1), rest.2)

  found : (number : ℕ) (xs : List X) → 0 < count_by (◌==◌ number) (map key xs) → (i : ℕ) × (i < length xs) × ((d : X) → key (get_or xs i d) ≡ number)
  found number [] some = absurd (omega (arith, some))
  found number (x ∷ xs) some = found_by number x xs (number == key x) refl (λ later. found number xs later) (omega (arith, some, count_cons (◌==◌ number) (key x) (map key xs)))

  -- the first is the least
  least : (x : X) (xs : List X) (number : ℕ) → IsNonDecreasingBy key (x ∷ xs) → 0 < count_by (◌==◌ number) (map key xs) → key x ≤ number
  least x xs number sorted some =
      let at = found number xs some in
      let order : key x ≤ key (get_or xs at.0 x) = sorted 0 (suc at.0) x (omega arith) (omega (arith, at.1)) in
      let same = at.2 x in omega (arith, order, same)

  head_below : (first : ℕ) (x : X) (xs : List X) (b : Bool) → (first == key x) ≡ b → IsNonDecreasingBy key (x ∷ xs) → (if b then 1 else 0) + count_by (◌==◌ first) (map key xs) ≡ 1 → key x ≤ first
  head_below first x xs true is sorted once = let same = eqb-true first (key x) is in omega (arith, same)
  head_below first x xs false is sorted once = least x xs first sorted (omega (arith, once))

  head_is : (first count : ℕ) (x : X) (xs : List X) → IsNonDecreasingBy key (x ∷ xs) → ((number : ℕ) → count_by (◌==◌ number) (map key (x ∷ xs)) ≡ in_row first (suc count) number) → key x ≡ first
  head_is first count x xs sorted each =
      let below : key x ≤ first = head_below first x xs (first == key x) refl sorted (sym (count_cons (◌==◌ first) (key x) (map key xs)) ∙ each first ∙ row_first first count) in
      let here = count_here (key x) (map key xs) in
      let own = each (key x) in
      let above : first ≤ key x = row_from first (suc count) (key x) (omega (arith, here, own)) in
      omega (arith, below, above)

  pub in_order : (first count : ℕ) (xs : List X) → IsNonDecreasingBy key xs → ((number : ℕ) → count_by (◌==◌ number) (map key xs) ≡ in_row first count number) → map key xs ≡ range_with_len first count
  in_order first zero [] sorted each = refl
  in_order first zero (x ∷ xs) sorted each =
      let here = count_here (key x) (map key xs) in let own = each (key x) in let none = row_none first (key x) in absurd (omega (arith, here, own, none))
  in_order first (suc count) [] sorted each = let own = each first in let one = row_first first count in absurd (omega (arith, own, one))
  in_order first (suc count) (x ∷ xs) sorted each =
      let head : key x ≡ first = head_is first count x xs sorted each in
      let rest : map key xs ≡ range_with_len (first + 1) count = in_order (first + 1) count xs (λ i j d le lt. sorted (suc i) (suc j) d (omega (arith, le)) (omega (arith, lt)))
      (λ number. rest_each head number) in
      (λ i. head i ∷ rest i)
    where
      rest_each : key x ≡ first → (number : ℕ) → count_by (◌==◌ number) (map key xs) ≡ in_row (first + 1) count number
      rest_each head number =
          let all = each number in
          let step = row_step first count number in
          let same : ◌≡◌ {A = ℕ} (if number == key x then 1 else 0) (if number == first then 1 else 0) = ap (λ n. if number == n then 1 else 0) head in
          omega (arith, all, step, same, count_cons (◌==◌ number) (key x) (map key xs))
