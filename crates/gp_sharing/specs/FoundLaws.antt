-- Laws: what tests that passed say, and the first step of a list that is equal to another.
use Rattle.std.proofs.Common.{◌≡◌, refl, ap, sym, ◌∙◌, subst, ℕ, ◌<◌, ◌≤◌, Bool, true, false, ◌&&◌, nat_lt, List, [], ◌∷◌, Option, Some, length, get_or, All, arith}
use Rattle.std.specs.Cmp.{unsigned_Decides}
use Rattle.std.specs.Cmp.Lexicographic.{pointwise, pointwise_decides}
use Rattle.std.specs.List.{list_all, position, position_or_len, slice_get}
use Rattle.std.specs.Prelude.{nat_eq}
use Rattle.std.proofs.lemmas.Bool.{false≢true}
use Rattle.std.proofs.lemmas.Bool.Decides.{nat_tests}
use Rattle.std.proofs.lemmas.List.Elements.{All-cons, All-nil}
use Rattle.std.proofs.lemmas.List.Sums.{passes_at_first}
use Rattle.std.proofs.lemmas.Option.{cond_some, slice_get-get_or}
use Rattle.gp_clause.specs.Lit.{lit_eq}
use Rattle.gp_clause.specs.LitLaws.{lits_decide}
use Rattle.gp_certificate.specs.declared.step.Step.{Step}
use Rattle.gp_window.specs.NumberLaws.{test_passed}
use Rattle.gp_sharing.specs.declared.sizes.Sizes.{Sizes}
use Rattle.gp_sharing.specs.Moving.{moved_step, moves, place_of, step_eq}

pub is_less : (a b : ℕ) → nat_lt a b ≡ true → a < b
is_less a b h = grind (arith, nat_tests)

pub is_not_less : (a b : ℕ) → nat_lt a b ≡ false → b ≤ a
is_not_less a b h = grind (arith, nat_tests)

-- both parts of a test hold
pub both : (a b : Bool) → (a && b) ≡ true → (a ≡ true) × (b ≡ true)
both true b h = (refl, h)
both false b h = absurd (false≢true h)

-- what passes a test does so at each element
pub each_passes : {X : Type 0} (test : X → Bool) (xs : List X) → list_all test xs ≡ true → All (λ x. test x ≡ true) xs
each_passes test [] h = All-nil (λ x. test x ≡ true)
each_passes test (x ∷ xs) h =
    let parts = both (test x) (list_all test xs) h in All-cons (λ y. test y ≡ true) x xs parts.0 (each_passes test xs parts.1)

-- the test of steps tells which are the same
pub step_same : (one other : Step) → step_eq one other ≡ true → one ≡ other
step_same one other h =
    let parts = both (pointwise lit_eq one.clause other.clause) (pointwise nat_eq one.hints other.hints) h in
    let clauses : one.clause ≡ other.clause = (lits_decide one.clause other.clause).0 parts.0 in
    let hints : one.hints ≡ other.hints = (pointwise_decides unsigned_Decides one.hints other.hints).0 parts.1 in
    λ i. record { clause = clauses i; hints = hints i }

pub same_step : (step : Step) → step_eq step step ≡ true
same_step step =
    let clauses : pointwise lit_eq step.clause step.clause ≡ true = (lits_decide step.clause step.clause).1 refl in
    let hints : pointwise nat_eq step.hints step.hints ≡ true = (pointwise_decides unsigned_Decides step.hints step.hints).1 refl in
    rw (clauses, hints) refl

-- what is found stands in the list
pub found_there : (step : Step) (list : List Step) (place : ℕ) → position (step_eq step) list ≡ Some place → (place < length list) × (slice_get list place ≡ Some step)
found_there step list place found =
    let first = position_or_len (step_eq step) list in
    let parts = cond_some (nat_lt first (length list)) first place found in
    let within : first < length list = is_less first (length list) parts.0 in
    let same : step ≡ get_or list first step = step_same step (get_or list first step) (passes_at_first (step_eq step) list step within) in
    let at : slice_get list first ≡ Some step = slice_get-get_or list first step within ∙ ap (λ (s : Step). Some s) (sym same) in
    (subst (λ (n : ℕ). n < length list) parts.1 within, subst (λ (n : ℕ). slice_get list n ≡ Some step) parts.1 at)

-- a step with a place moves, and stands there
pub placed_there : (sizes : Sizes) (list : List Step) (places : List (Option ℕ)) (step : Step) (place : ℕ) → place_of sizes list places step ≡ Some place
    → (moves sizes places step ≡ true) × (place < length list) × (slice_get list place ≡ Some (moved_step sizes places step))
placed_there sizes list places step place at =
    let parts = test_passed (moves sizes places step) (position (step_eq (moved_step sizes places step)) list) place at in
    let there = found_there (moved_step sizes places step) list place parts.1 in
    (parts.0, there.0, there.1)
