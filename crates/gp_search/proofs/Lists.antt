-- Elements of lists that functions make.
use Rattle.std.proofs.Common.{◌≡◌, refl, ◌∙◌, ap, zero, suc, Option, Some, None, List, [], ◌∷◌, Contains, inl, inr, arith}
use Rattle.std.specs.List.{filter_map}
use Rattle.gp_base.specs.ListLaws.{first_or_rest, here, there}

-- what a function gives of an element is one of all that it gives
pub filtered : {X Y : Type 0} (f : X → Option Y) (xs : List X) (x : X) (y : Y) → Contains xs x → f x ≡ Some y → Contains (filter_map f xs) y
filtered f [] x y (k, within, is) gives = absurd (omega arith)
filtered {X} {Y} f (z ∷ xs) x y (zero, within, is) gives = rw (ap f is ∙ gives) (here y (filter_map f xs))
filtered {X} {Y} f (z ∷ xs) x y (suc k, within, is) gives = at (f z) refl (filtered f xs x y (k, omega arith, is) gives)
  where
    at : (o : Option Y) → f z ≡ o → Contains (filter_map f xs) y → Contains (filter_map f (z ∷ xs)) y
    at None none rest = rw none rest
    at (Some first) some rest = rw some (there first (filter_map f xs) y rest)

-- and each of all is given of an element
pub filtered_cases : {X Y : Type 0} (f : X → Option Y) (xs : List X) (y : Y) → Contains (filter_map f xs) y → (x : X) × Contains xs x × (f x ≡ Some y)
filtered_cases f [] y (k, within, is) = absurd (omega arith)
filtered_cases {X} {Y} f (x ∷ xs) y is = at (f x) refl is (filtered_cases f xs y)
  where
    at : (o : Option Y) → f x ≡ o → Contains (filter_map f (x ∷ xs)) y → (Contains (filter_map f xs) y → (z : X) × Contains xs z × (f z ≡ Some y))
        → (z : X) × Contains (x ∷ xs) z × (f z ≡ Some y)
    at None none among more = let rest = more (rw none at among) in (rest.0, there x xs rest.0 rest.1, rest.2)
    at (Some first) some among more = elim (first_or_rest first (filter_map f xs) y (rw some at among)) [
      | inl same ↦ (x, here x xs, some ∙ ap (λ (z : Y). Some z) same)
      | inr others ↦ let rest = more others in (rest.0, there x xs rest.0 rest.1, rest.2)
    ]
