-- Lists in general: a search and a flat map over the elements that count.
use Rattle.std.proofs.Common.{◌≡◌, ap, ◌∙◌, refl, inl, inr, List, [], ◌∷◌, ◌++◌, Bool, true, false}
use Rattle.std.specs.Prelude.{Some, filter, find, flat_map, if◌then◌else◌}
use Rattle.std.proofs.lemmas.Bool.{cases_Bool}
use Rattle.std.proofs.lemmas.Grind.{flat_map-append}

-- a search among the elements that can be found
pub find_kept : {X : Type 0} (p q : X → Bool) (xs : List X) → ((x : X) → q x ≡ false → p x ≡ false) → find p (filter q xs) ≡ find p xs
find_kept p q [] h = refl
find_kept p q (x ∷ xs) h =
    elim (cases_Bool (q x)) [
      | inl kept ↦ rw kept (ap (λ rest. if p x then Some x else rest) (find_kept p q xs h))
      | inr off ↦ (let fails : p x ≡ false = h x off in rw (off, fails) (find_kept p q xs h))
    ]

-- a flat map over the elements that give something
pub flat_kept : {X Y : Type 0} (f : X → List Y) (q : X → Bool) (xs : List X) → ((x : X) → q x ≡ false → f x ≡ []) → flat_map f (filter q xs) ≡ flat_map f xs
flat_kept f q [] h = refl
flat_kept f q (x ∷ xs) h =
    elim (cases_Bool (q x)) [
      | inl kept ↦ rw kept (ap (λ rest. f x ++ rest) (flat_kept f q xs h))
      | inr off ↦ (let gives : f x ≡ [] = h x off in rw (off, gives) (flat_kept f q xs h))
    ]

-- the same, with another function on the elements that give something
pub flat_picked : {X Y : Type 0} (f g : X → List Y) (q : X → Bool) (xs : List X) → ((x : X) → q x ≡ false → f x ≡ []) → ((x : X) → q x ≡ true → g x ≡ f x)
    → flat_map g (filter q xs) ≡ flat_map f xs
flat_picked f g q [] h k = refl
flat_picked f g q (x ∷ xs) h k =
    elim (cases_Bool (q x)) [
      | inl kept ↦
          (let same : g x ≡ f x = k x kept in
          let rest : flat_map g (filter q xs) ≡ flat_map f xs = flat_picked f g q xs h k in
          rw kept (ap (λ one. one ++ flat_map g (filter q xs)) same ∙ ap (λ more. f x ++ more) rest))
      | inr off ↦ (let gives : f x ≡ [] = h x off in rw (off, gives) (flat_picked f g q xs h k))
    ]

-- a flat map over a flat map
pub flat_flat : {X Y Z : Type 0} (f : Y → List Z) (g : X → List Y) (xs : List X) → flat_map f (flat_map g xs) ≡ flat_map (λ x. flat_map f (g x)) xs
flat_flat f g [] = refl
flat_flat f g (x ∷ xs) = flat_map-append f (g x) (flat_map g xs) ∙ ap (λ rest. flat_map f (g x) ++ rest) (flat_flat f g xs)
