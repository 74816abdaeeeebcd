-- How often a number stands in a list.
use Rattle.std.proofs.Common.{◌≡◌, refl, ap, cond, count_by, sum_by, ℕ, ◌+◌, ◌*◌, ◌<◌, ◌≤◌, ◌==◌, Bool, true, false, List, [], ◌∷◌, length, take, drop, if◌then◌else◌, arith}
use Rattle.std.proofs.lemmas.Bool.{eqb-true}
use Rattle.std.proofs.lemmas.List.Sums.{sum_by-cons, sum_by-take-drop}
use Rattle.gp_base.specs.SumLaws.{count_cons}

-- the first one and the rest are all
pub count_parts : (test : ℕ → Bool) (xs : List ℕ) → count_by test (take 1 xs) + count_by test (drop 1 xs) ≡ count_by test xs
count_parts test xs = sum_by-take-drop (λ (x : ℕ). cond (test x) 1 0) xs 1

-- numbers of which each is at most 1,024
pub most : (f : ℕ → ℕ) (xs : List ℕ) → ((number : ℕ) → f number ≤ 1024) → sum_by f xs ≤ 1024 * length xs
most f [] each = omega arith
most f (x ∷ xs) each = let rest = most f xs each in let first : f x ≤ 1024 = each x in omega (arith, rest, first, sum_by-cons f x xs)

-- by whether the number is the first one
fewer_by : (f : ℕ → ℕ) (number x : ℕ) (xs : List ℕ) → f x ≤ 1024 → sum_by f xs ≤ 1024 * length xs → f number < 1024 → (0 < count_by (◌==◌ number) xs → sum_by f xs < 1024 * length xs)
    → (b : Bool) → (number == x) ≡ b → 0 < (if b then 1 else 0) + count_by (◌==◌ number) xs → f x + sum_by f xs < 1024 * length (x ∷ xs)
fewer_by f number x xs first others few rest true same there = let is : f number ≡ f x = ap f (eqb-true number x same) in omega (arith, is, others, few)
fewer_by f number x xs first others few rest false other there = let fewer_others : sum_by f xs < 1024 * length xs = rest (omega (arith, there)) in omega (arith, first, fewer_others)

-- where one of them is less, so is the sum
pub fewer : (f : ℕ → ℕ) (number : ℕ) (xs : List ℕ) → ((other : ℕ) → f other ≤ 1024) → f number < 1024 → 0 < count_by (◌==◌ number) xs → sum_by f xs < 1024 * length xs
fewer f number [] each few there = absurd (omega (arith, there))
fewer f number (x ∷ xs) each few there =
    let some : 0 < (if number == x then 1 else 0) + count_by (◌==◌ number) xs = omega (arith, there, count_cons (◌==◌ number) x xs) in
    let less : f x + sum_by f xs < 1024 * length (x ∷ xs) = fewer_by f number x xs (each x) (most f xs each) few (fewer f number xs each few) (number == x) refl some in
    omega (arith, less, sum_by-cons f x xs)
