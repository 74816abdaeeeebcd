-- No two lists both go together and fail, and they fail first at one place.
use Rattle.std.proofs.Common.{◌≡◌, sym, subst, ℕ, zero, suc, ◌+◌, ◌<◌, ◌≤◌, ◌⊎◌, inl, inr, List, [], ◌∷◌, take, Option, Some, None, arith}
use Rattle.std.specs.List.{AllZip, slice_get}
use Rattle.std.proofs.lemmas.Bool.{cases_lt}
use Rattle.gp_checker.specs.First.{FailsFirst, FailsHere}

-- lists that go together fail nowhere
pub here_not_all : {A B : Type 0} (Accepts Fails : A → B → Type 0) (Lacks : Type 0) → ((one : A) (other : B) → Fails one other → Accepts one other → ⊥) → (xs : List A) (ys : List B) (place : ℕ)
    → FailsHere Fails Lacks (slice_get xs place) (slice_get ys place) → AllZip Accepts xs ys → ⊥
here_not_all Accepts Fails Lacks apart [] [] place here zip = here
here_not_all Accepts Fails Lacks apart [] (other ∷ ys) place here zip = zip
here_not_all Accepts Fails Lacks apart (one ∷ xs) [] place here zip = zip
here_not_all Accepts Fails Lacks apart (one ∷ xs) (other ∷ ys) zero here zip = apart one other here zip.0
here_not_all Accepts Fails Lacks apart (one ∷ xs) (other ∷ ys) (suc place) here zip = here_not_all Accepts Fails Lacks apart xs ys place here zip.1

-- nor do their first parts before a failure
pub here_not_before : {A B : Type 0} (Accepts Fails : A → B → Type 0) (Lacks : Type 0) → ((one : A) (other : B) → Fails one other → Accepts one other → ⊥) → (xs : List A) (ys : List B) (place count : ℕ) → place < count
    → FailsHere Fails Lacks (slice_get xs place) (slice_get ys place) → AllZip Accepts (take count xs) (take count ys) → ⊥
here_not_before Accepts Fails Lacks apart xs ys place zero below here zip = omega (arith, below)
here_not_before Accepts Fails Lacks apart [] [] place (suc count) below here zip = here
here_not_before Accepts Fails Lacks apart [] (other ∷ ys) place (suc count) below here zip = zip
here_not_before Accepts Fails Lacks apart (one ∷ xs) [] place (suc count) below here zip = zip
here_not_before Accepts Fails Lacks apart (one ∷ xs) (other ∷ ys) zero (suc count) below here zip = apart one other here zip.0
here_not_before Accepts Fails Lacks apart (one ∷ xs) (other ∷ ys) (suc place) (suc count) below here zip =
    here_not_before Accepts Fails Lacks apart xs ys place count (omega (arith, below)) here zip.1

same_place : (one other : ℕ) → (one < other → ⊥) → (other < one → ⊥) → one ≡ other
same_place one other not_less not_more = at (cases_lt one other) (cases_lt other one)
  where
    at : (one < other) ⊎ (other ≤ one) → (other < one) ⊎ (one ≤ other) → one ≡ other
    at (inl less) more = absurd (not_less less)
    at (inr least) (inl more) = absurd (not_more more)
    at (inr least) (inr most) = omega (arith, least, most)

-- two first failures are at one place
pub first_same : {A B : Type 0} (Accepts Fails Fails' : A → B → Type 0) (Lacks Lacks' : Type 0) → ((one : A) (other : B) → Fails one other → Accepts one other → ⊥)
    → ((one : A) (other : B) → Fails' one other → Accepts one other → ⊥) → (xs : List A) (ys : List B) (place place' : ℕ)
    → FailsFirst Accepts Fails Lacks xs ys place → FailsFirst Accepts Fails' Lacks' xs ys place' → place ≡ place'
first_same Accepts Fails Fails' Lacks Lacks' apart apart' xs ys place place' first first' =
    same_place place place' (λ less. here_not_before Accepts Fails Lacks apart xs ys place place' less first.here first'.before)
    (λ more. here_not_before Accepts Fails' Lacks' apart' xs ys place' place more first'.here first.before)

-- and there the same pair fails in both ways, or the same is lacking
pub here_both : {A B : Type 0} (Fails Fails' : A → B → Type 0) (Lacks Lacks' Goal : Type 0) (one : Option A) (other : Option B) → ((x : A) (y : B) → Fails x y → Fails' x y → Goal) → (Lacks → Lacks' → Goal)
    → FailsHere Fails Lacks one other → FailsHere Fails' Lacks' one other → Goal
here_both Fails Fails' Lacks Lacks' Goal (Some one) (Some other) pairs lacks here here' = pairs one other here here'
here_both Fails Fails' Lacks Lacks' Goal (Some one) None pairs lacks here here' = lacks here here'
here_both Fails Fails' Lacks Lacks' Goal None (Some other) pairs lacks here here' = lacks here here'
here_both Fails Fails' Lacks Lacks' Goal None None pairs lacks here here' = absurd here

-- both at once
pub first_both : {A B : Type 0} (Accepts Fails Fails' : A → B → Type 0) (Lacks Lacks' Goal : Type 0) → ((one : A) (other : B) → Fails one other → Accepts one other → ⊥)
    → ((one : A) (other : B) → Fails' one other → Accepts one other → ⊥) → (xs : List A) (ys : List B) (place place' : ℕ)
    → ((x : A) (y : B) → Fails x y → Fails' x y → Goal) → (Lacks → Lacks' → Goal)
    → FailsFirst Accepts Fails Lacks xs ys place → FailsFirst Accepts Fails' Lacks' xs ys place' → (place ≡ place') × Goal
first_both Accepts Fails Fails' Lacks Lacks' Goal apart apart' xs ys place place' pairs lacks first first' =
    let same = first_same Accepts Fails Fails' Lacks Lacks' apart apart' xs ys place place' first first' in
    let there : FailsHere Fails' Lacks' (slice_get xs place) (slice_get ys place) = subst (λ n. FailsHere Fails' Lacks' (slice_get xs n) (slice_get ys n)) (sym same) first'.here in
    (same, here_both Fails Fails' Lacks Lacks' Goal (slice_get xs place) (slice_get ys place) pairs lacks first.here there)

-- where both fail first among steps, it is at one place
pub fails_once : (Passes : ℕ → Type 0) → ((few more : ℕ) → few ≤ more → Passes more → Passes few) → (place place' : ℕ) → Passes place → (Passes (place + 1) → ⊥) → Passes place' → (Passes (place' + 1) → ⊥) → place ≡ place'
fails_once Passes fewer place place' before fails before' fails' =
    same_place place place' (λ less. fails (fewer (place + 1) place' (omega (arith, less)) before')) (λ more. fails' (fewer (place' + 1) place (omega (arith, more)) before))
