-- How many windows have their middle before the end of a part.
use Rattle.std.proofs.Common.{◌≡◌, refl, subst, inl, inr, cond, ℕ, zero, suc, ◌+◌, ◌*◌, ◌<◌, ◌≤◌, List, [], ◌∷◌, ◌++◌, map, length, nat_lt, sum, arith}
use Rattle.std.specs.List.{range_with_len}
use Rattle.std.proofs.Math.Nat.{mul-le-mul_right, mul-lt-mul_of_pos_right}
use Rattle.std.proofs.lemmas.Bool.{cases_lt}
use Rattle.std.proofs.lemmas.Bool.Decides.{nat_tests}
use Rattle.std.proofs.lemmas.List.Sums.{sum_by-cons}
use Rattle.gp_cut.specs.Parts.{middles_before, windows_to}

-- a window counts one where its middle is before the end, else none
abbrev pub counted : ℕ → ℕ → ℕ
counted middle end = cond (nat_lt middle end) 1 0

pub counted_true : (middle end : ℕ) → middle < end → counted middle end ≡ 1
counted_true middle end before = grind (arith, nat_tests)

counted_false : (middle end : ℕ) → end ≤ middle → counted middle end ≡ 0
counted_false middle end behind = grind (arith, nat_tests)

counted_once : (middle end : ℕ) → counted middle end ≤ 1
counted_once middle end = grind (arith, nat_tests)

counted_more : (middle end later : ℕ) → end ≤ later → counted middle end ≤ counted middle later
counted_more middle end later rises = grind (arith, nat_tests)

-- what all weigh, the first apart
pub sum_first : (weight : ℕ) (weights : List ℕ) → sum (weight ∷ weights) ≡ weight + sum weights
sum_first weight weights = sum_by-cons (λ w. w) weight weights

-- no window has its middle before the first part
pub none_to_first : (parts whole before : ℕ) (weights : List ℕ) → middles_before 0 parts whole before weights ≡ 0
none_to_first parts whole before [] = refl
none_to_first parts whole before (weight ∷ weights) =
    let first = counted_false ((before + before + weight) * parts) (2 * 0 * whole) (omega arith) in
    omega (arith, first, none_to_first parts whole (before + weight) weights)

-- each window that weighs something has its middle before the end of the last part
pub all_to_last : (f : ℕ → ℕ) (parts whole before first count : ℕ) → 1 ≤ parts → ((k : ℕ) → 1 ≤ f k) → before + sum (map f (range_with_len first count)) ≡ whole
    → middles_before parts parts whole before (map f (range_with_len first count)) ≡ count
all_to_last f parts whole before first zero some weighs is = refl
all_to_last f parts whole before first (suc count) some weighs is =
    let here : 1 ≤ f first = weighs first in
    let apart = sum_first (f first) (map f (range_with_len (first + 1) count)) in
    let middle : (before + before + f first) * parts < (2 * whole) * parts = mul-lt-mul_of_pos_right (omega arith) (omega arith) in
    let one = counted_true ((before + before + f first) * parts) (2 * parts * whole) (omega (arith, middle)) in
    omega (arith, one, all_to_last f parts whole (before + f first) (first + 1) count some weighs (omega (arith, apart, is)))

-- no fewer windows have their middle before the end of a later part
pub more_to_later : (part later parts whole before : ℕ) (weights : List ℕ) → part ≤ later
    → middles_before part parts whole before weights ≤ middles_before later parts whole before weights
more_to_later part later parts whole before [] rises = omega arith
more_to_later part later parts whole before (weight ∷ weights) rises =
    let ends : part * whole ≤ later * whole = mul-le-mul_right whole rises in
    let first = counted_more ((before + before + weight) * parts) (2 * part * whole) (2 * later * whole) (omega (arith, ends)) in
    omega (arith, first, more_to_later part later parts whole (before + weight) weights rises)

-- where the middle of a window is not before the end of a part, no later one is
pub none_behind : (part parts whole before weight : ℕ) (weights : List ℕ) → 2 * part * whole ≤ (before + before + weight) * parts
    → middles_before part parts whole before (weight ∷ weights) ≡ 0
none_behind part parts whole before weight [] behind = omega (arith, counted_false ((before + before + weight) * parts) (2 * part * whole) behind)
none_behind part parts whole before weight (next ∷ weights) behind =
    let first = counted_false ((before + before + weight) * parts) (2 * part * whole) behind in
    let later : (before + before + weight) * parts ≤ ((before + weight) + (before + weight) + next) * parts = mul-le-mul_right parts (omega arith) in
    omega (arith, first, none_behind part parts whole (before + weight) next weights (omega (arith, behind, later)))

-- where the middle of a window is before the end of a part, so are those of all earlier ones
reached : (part parts whole before here weight : ℕ) (front back : List ℕ) → here ≡ before + sum front → (here + here + weight) * parts < 2 * part * whole
    → length front + 1 ≤ middles_before part parts whole before (front ++ weight ∷ back)
reached part parts whole before here weight [] back is within =
    let same : here ≡ before = omega (arith, is) in
    let middle : (before + before + weight) * parts < 2 * part * whole = subst (λ (k : ℕ). (k + k + weight) * parts < 2 * part * whole) same within in
    omega (arith, counted_true ((before + before + weight) * parts) (2 * part * whole) middle)
reached part parts whole before here weight (first ∷ front) back is within =
    let apart = sum_first first front in
    let earlier : (before + before + first) * parts ≤ (here + here + weight) * parts = mul-le-mul_right parts (omega (arith, is, apart)) in
    let one = counted_true ((before + before + first) * parts) (2 * part * whole) (omega (arith, earlier, within)) in
    omega (arith, one, reached part parts whole (before + first) here weight front back (omega (arith, is, apart)) within)

-- where it is not, no more windows than those before it have their middle before that end
not_reached : (part parts whole before here weight : ℕ) (front back : List ℕ) → here ≡ before + sum front → 2 * part * whole ≤ (here + here + weight) * parts
    → middles_before part parts whole before (front ++ weight ∷ back) ≤ length front
not_reached part parts whole before here weight [] back is behind =
    let same : here ≡ before = omega (arith, is) in
    let middle : 2 * part * whole ≤ (before + before + weight) * parts = subst (λ (k : ℕ). 2 * part * whole ≤ (k + k + weight) * parts) same behind in
    omega (arith, none_behind part parts whole before weight back middle)
not_reached part parts whole before here weight (first ∷ front) back is behind =
    let apart = sum_first first front in
    omega (
      arith,
      counted_once ((before + before + first) * parts) (2 * part * whole),
      not_reached part parts whole (before + first) here weight front back (omega (arith, is, apart)) behind,
    )

-- the middle of the last window up to the end of a part is before that end
pub last_before : (part parts weight : ℕ) (front back : List ℕ) → windows_to part parts (front ++ weight ∷ back) ≡ length front + 1
    → (sum front + sum front + weight) * parts < 2 * part * sum (front ++ weight ∷ back)
last_before part parts weight front back is =
    let whole : ℕ = sum (front ++ weight ∷ back) in
    elim (cases_lt ((sum front + sum front + weight) * parts) (2 * part * whole)) [
      | inl before ↦ before
      | inr behind ↦ absurd (let few = not_reached part parts whole 0 (sum front) weight front back (omega arith) behind in omega (arith, few, is))
    ]

-- and that of the first window behind it is not
pub first_behind : (part parts weight : ℕ) (front back : List ℕ) → windows_to part parts (front ++ weight ∷ back) ≡ length front
    → 2 * part * sum (front ++ weight ∷ back) ≤ (sum front + sum front + weight) * parts
first_behind part parts weight front back is =
    let whole : ℕ = sum (front ++ weight ∷ back) in
    elim (cases_lt ((sum front + sum front + weight) * parts) (2 * part * whole)) [
      | inl before ↦ absurd (let many = reached part parts whole 0 (sum front) weight front back (omega arith) before in omega (arith, many, is))
      | inr behind ↦ behind
    ]
