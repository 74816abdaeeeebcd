-- Laws on the sum of a number over a list, and on how often something stands in a list.
use Rattle.std.proofs.Common.{◌≡◌, refl, sym, ap, ℕ, zero, suc, ◌+◌, ◌<◌, ◌≤◌, ◌≢◌, Bool, List, [], ◌∷◌, ◌++◌, length, set, sum_by, count_by, cond, arith}
use Rattle.std.proofs.lemmas.List.Sums.{sum_by-append, sum_by-cons}
use mathlib.Core.Option.{some, some-injective, some-ne-none}
use lib.ListN.{get_elem?}

module _ {X : Type 0} where
  -- how often something stands in two lists
  pub count_append : (test : X → Bool) (xs ys : List X) → count_by test (xs ++ ys) ≡ count_by test xs + count_by test ys
  count_append test xs ys = sum_by-append (λ (x : X). cond (test x) 1 0) xs ys

  -- how often something stands in a list, by its first element
  pub count_cons : (test : X → Bool) (x : X) (xs : List X) → count_by test (x ∷ xs) ≡ cond (test x) 1 0 + count_by test xs
  count_cons test x xs = sum_by-cons (λ (y : X). cond (test y) 1 0) x xs

  -- what is there stands within the list
  pub stands_within : (xs : List X) (place : ℕ) (x : X) → get_elem? xs place ≡ some x → place < length xs
  stands_within [] place x at = absurd (some-ne-none x (sym at))
  stands_within (first ∷ xs) zero x at = omega arith
  stands_within (first ∷ xs) (suc place) x at = let rest = stands_within xs place x at in omega (arith, rest)

  -- one element changes
  pub sum_set : (f : X → ℕ) (xs : List X) (place : ℕ) (old new : X) → get_elem? xs place ≡ some old → sum_by f (set xs place new) + f old ≡ sum_by f xs + f new
  sum_set f [] place old new at = absurd (some-ne-none old (sym at))
  sum_set f (x ∷ xs) zero old new at = let same : f x ≡ f old = ap f (some-injective x old at) in omega (arith, same, sum_by-cons f x xs, sum_by-cons f new xs)
  sum_set f (x ∷ xs) (suc place) old new at =
      let rest = sum_set f xs place old new at in omega (arith, rest, sum_by-cons f x xs, sum_by-cons f x (set xs place new))

  -- one has no more than all
  pub one_most : (f : X → ℕ) (xs : List X) (place : ℕ) (x : X) → get_elem? xs place ≡ some x → f x ≤ sum_by f xs
  one_most f [] place x at = absurd (some-ne-none x (sym at))
  one_most f (first ∷ xs) zero x at = let same : f first ≡ f x = ap f (some-injective first x at) in omega (arith, same, sum_by-cons f first xs)
  one_most f (first ∷ xs) (suc place) x at = let rest = one_most f xs place x at in omega (arith, rest, sum_by-cons f first xs)

  -- two have no more than all
  pub two_most : (f : X → ℕ) (xs : List X) (place other : ℕ) (x y : X) → get_elem? xs place ≡ some x → other ≢ place → get_elem? xs other ≡ some y → f x + f y ≤ sum_by f xs
  two_most f [] place other x y at apart there = absurd (some-ne-none x (sym at))
  two_most f (first ∷ xs) zero zero x y at apart there = absurd (apart refl)
  two_most f (first ∷ xs) zero (suc other) x y at apart there =
      let same : f first ≡ f x = ap f (some-injective first x at) in let rest = one_most f xs other y there in omega (arith, same, rest, sum_by-cons f first xs)
  two_most f (first ∷ xs) (suc place) zero x y at apart there =
      let same : f first ≡ f y = ap f (some-injective first y there) in let rest = one_most f xs place x at in omega (arith, same, rest, sum_by-cons f first xs)
  two_most f (first ∷ xs) (suc place) (suc other) x y at apart there =
      let rest = two_most f xs place other x y at (λ same. apart (ap suc same)) there in omega (arith, rest, sum_by-cons f first xs)

  -- a number that is nowhere greater than another is not greater in all
  pub sum_least : (f g : X → ℕ) (xs : List X) → ((place : ℕ) (x : X) → get_elem? xs place ≡ some x → f x ≤ g x) → sum_by f xs ≤ sum_by g xs
  sum_least f g [] below = omega arith
  sum_least f g (x ∷ xs) below =
      let first : f x ≤ g x = below 0 x refl in
      let rest = sum_least f g xs (λ place y at. below (suc place) y at) in omega (arith, first, rest, sum_by-cons f x xs, sum_by-cons g x xs)

  -- where all together have none of a number, each has none of it
  none_have : (f g : X → ℕ) (xs : List X) → sum_by g xs ≡ 0 → ((place : ℕ) (x : X) → get_elem? xs place ≡ some x → g x ≡ 0 → f x ≡ 0) → sum_by f xs ≡ 0
  none_have f g [] none idle = refl
  none_have f g (x ∷ xs) none idle =
      let both = sum_by-cons g x xs in
      let own : f x ≡ 0 = idle 0 x refl (omega (arith, none, both)) in
      let rest = none_have f g xs (omega (arith, none, both)) (λ place y at. idle (suc place) y at) in omega (arith, own, rest, sum_by-cons f x xs)

  -- where one has all of a number, and who has none of it has nothing, that one has all
  pub one_has_all : (f g : X → ℕ) (xs : List X) (place : ℕ) (x : X) → get_elem? xs place ≡ some x → g x ≡ sum_by g xs
      → ((other : ℕ) (y : X) → get_elem? xs other ≡ some y → g y ≡ 0 → f y ≡ 0) → sum_by f xs ≡ f x
  one_has_all f g [] place x at all idle = absurd (some-ne-none x (sym at))
  one_has_all f g (first ∷ xs) zero x at all idle =
      let both = sum_by-cons g first xs in
      let same : first ≡ x = some-injective first x at in
      let own : f first ≡ f x = ap f same in
      let mine : g first ≡ g x = ap g same in
      let rest = none_have f g xs (omega (arith, both, mine, all)) (λ other y there. idle (suc other) y there) in omega (arith, own, rest, sum_by-cons f first xs)
  one_has_all f g (first ∷ xs) (suc place) x at all idle =
      let both = sum_by-cons g first xs in
      let most = one_most g xs place x at in
      let none : g first ≡ 0 = omega (arith, both, most, all) in
      let own : f first ≡ 0 = idle 0 first refl none in
      let rest = one_has_all f g xs place x at (omega (arith, both, none, all)) (λ other y there. idle (suc other) y there) in omega (arith, own, rest, sum_by-cons f first xs)
