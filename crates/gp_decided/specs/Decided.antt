-- What is decided: it holds, or it does not.
use Rattle.std.specs.Prelude.{◌≡◌, ◌⊎◌, ◌↔◌, Bool, true, false, List, [], ◌∷◌, All, Contains}
use Rattle.std.proofs.Common.{inl, inr, refl, sym, subst}
use Rattle.std.proofs.lemmas.Bool.{false≢true}
use Rattle.std.proofs.lemmas.List.Elements.{All-contains}
use Rattle.gp_base.specs.ListLaws.{all_from_contains, first_or_rest, here, nothing_in, there}

abbrev pub Decided : Type 0 → Type 0
Decided P = P ⊎ (P → ⊥)

-- something holds of some element of a list, or of each
abbrev pub SomeOf : {X : Type 0} → (X → Type 0) → List X → Type 0
SomeOf P xs = (x : _) × Contains xs x × P x

abbrev pub EachOf : {X : Type 0} → (X → Type 0) → List X → Type 0
EachOf P xs = (x : _) → Contains xs x → P x

pub both_decided : {P Q : Type 0} → Decided P → Decided Q → Decided (P × Q)
both_decided (inl p) (inl q) = inl (p, q)
both_decided (inl p) (inr fails) = inr (λ both. fails both.1)
both_decided (inr fails) q = inr (λ both. fails both.0)

pub either_decided : {P Q : Type 0} → Decided P → Decided Q → Decided (P ⊎ Q)
either_decided (inl p) q = inl (inl p)
either_decided (inr no_p) (inl q) = inl (inr q)
either_decided (inr no_p) (inr no_q) = inr (λ either. elim either [
  | inl p ↦ no_p p
  | inr q ↦ no_q q
])

pub if_decided : {P Q : Type 0} → Decided P → Decided Q → Decided (P → Q)
if_decided p (inl q) = inl (λ _. q)
if_decided (inl p) (inr no_q) = inr (λ holds. no_q (holds p))
if_decided (inr no_p) (inr no_q) = inl (λ p. absurd (no_p p))

-- what holds exactly where something decided does is decided
pub decided_by : {P Q : Type 0} → (P → Q) → (Q → P) → Decided P → Decided Q
decided_by to from (inl p) = inl (to p)
decided_by to from (inr no_p) = inr (λ q. no_p (from q))

pub some_decided : {X : Type 0} (P : X → Type 0) (xs : List X) → ((x : X) → Contains xs x → Decided (P x)) → Decided (SomeOf P xs)
some_decided P [] each = inr (λ some. nothing_in some.0 some.1)
some_decided P (first ∷ xs) each = at (each first (here first xs)) (some_decided P xs (λ x within. each x (there first xs x within)))
  where
    at : Decided (P first) → Decided (SomeOf P xs) → Decided (SomeOf P (first ∷ xs))
    at (inl is) rest = inl (first, here first xs, is)
    at (inr fails) (inl (x, within, is)) = inl (x, there first xs x within, is)
    at (inr fails) (inr none) = inr (λ some. elim (first_or_rest first xs some.0 some.1) [
      | inl same ↦ fails (subst P (sym same) some.2)
      | inr later ↦ none (some.0, later, some.2)
    ])

pub each_decided : {X : Type 0} (P : X → Type 0) (xs : List X) → ((x : X) → Contains xs x → Decided (P x)) → Decided (EachOf P xs)
each_decided P [] each = inl (λ x within. absurd (nothing_in x within))
each_decided P (first ∷ xs) each = at (each first (here first xs)) (each_decided P xs (λ x within. each x (there first xs x within)))
  where
    at : Decided (P first) → Decided (EachOf P xs) → Decided (EachOf P (first ∷ xs))
    at (inr fails) rest = inr (λ all. fails (all first (here first xs)))
    at (inl is) (inr fails) = inr (λ all. fails (λ x within. all x (there first xs x within)))
    at (inl is) (inl rest) = inl (λ x within. elim (first_or_rest first xs x within) [
      | inl same ↦ subst P same is
      | inr later ↦ rest x later
    ])

pub all_decided : {X : Type 0} (P : X → Type 0) (xs : List X) → ((x : X) → Contains xs x → Decided (P x)) → Decided (All P xs)
all_decided P xs each = decided_by (all_from_contains P xs) (λ all x within. All-contains P xs x all within) (each_decided P xs each)

pub contains_decided : {X : Type 0} → ((a b : X) → Decided (a ≡ b)) → (xs : List X) (x : X) → Decided (Contains xs x)
contains_decided same xs x = decided_by from (λ within. (x, within, refl)) (some_decided (λ y. y ≡ x) xs (λ y _. same y x))
  where
    from : SomeOf (λ y. y ≡ x) xs → Contains xs x
    from (y, within, is) = subst (λ z. Contains xs z) is within

-- whether something decided holds
abbrev pub holds : {P : Type 0} → Decided P → Bool
holds (inl is) = true
holds (inr fails) = false

pub holds_exactly : {P : Type 0} (decided : Decided P) → (holds decided ≡ true) ↔ P
holds_exactly (inl is) = (λ _. is, λ _. refl)
holds_exactly (inr fails) = (λ test. absurd (false≢true test), λ is. absurd (fails is))
