-- The first place of an element, and the table that tells those of steps.
use Rattle.std.proofs.Common.{◌≡◌, refl, ap, sym, ◌∙◌, subst, ℕ, ◌+◌, ◌<◌, ◌≤◌, Bool, true, false, ◌&&◌, cond, eqb, nat_lt, List, [], ◌∷◌, ◌++◌, Option, Some, None, length, arith, rules}
use Rattle.std.specs.Prelude.{nat_eq}
use Rattle.std.specs.Cmp.Lexicographic.{pointwise}
use Rattle.std.specs.List.{list_any, position, position_or_len}
use Rattle.std.specs.Map.{lookup}
use Rattle.std.proofs.lemmas.Bool.{false≢true}
use Rattle.std.proofs.lemmas.Bool.Decides.{nat_tests}
use Rattle.std.proofs.lemmas.List.{length_push}
use Rattle.std.proofs.lemmas.List.Folds.{list_any_at, list_any_none, position_or_len_push}
use Rattle.std.proofs.lemmas.List.Sums.{fails_before_first, passes_at_first, prefix_len-le-length}
use Rattle.std.proofs.lemmas.Option.{cond_some, none-some}
use Rattle.gp_clause.specs.Lit.{lit_eq}
use Rattle.gp_certificate.specs.declared.step.Step.{Step}
use Rattle.gp_sharing.specs.contracts.shared_list.StepKeyPartialEq.TheImpl.{eq-value}
use Rattle.gp_sharing.specs.declared.shared_list.StepKey.{StepKey}
use Rattle.gp_sharing.specs.Keys.{HasFirsts, IsKeyOf, is_key_of}
use Rattle.gp_sharing.specs.Moving.{step_eq}
use Rattle.gp_sharing.specs.FoundLaws.{is_less, is_not_less, same_step, step_same}

module _ {X : Type 0} (p : X → Bool) (xs : List X) where
  -- what is found is there
  pub found_within : (n : ℕ) → position p xs ≡ Some n → (n < length xs) × (position_or_len p xs ≡ n)
  found_within n found =
      let parts = cond_some (nat_lt (position_or_len p xs) (length xs)) (position_or_len p xs) n found in
      let within : position_or_len p xs < length xs = is_less (position_or_len p xs) (length xs) parts.0 in
      (subst (λ (k : ℕ). k < length xs) parts.1 within, parts.1)

  -- where nothing is found the place would be the end
  pub missed : position p xs ≡ None → position_or_len p xs ≡ length xs
  missed none = by (nat_lt (position_or_len p xs) (length xs)) refl none
    where
      by : (b : Bool) → nat_lt (position_or_len p xs) (length xs) ≡ b → cond b (Some (position_or_len p xs)) None ≡ None → position_or_len p xs ≡ length xs
      by true within is = absurd (none-some (position_or_len p xs) (sym is))
      by false past is =
          let after : length xs ≤ position_or_len p xs = is_not_less (position_or_len p xs) (length xs) past in
          let most : position_or_len p xs ≤ length xs = prefix_len-le-length _ xs in omega (arith, after, most)

  pub found_any : (n : ℕ) → position p xs ≡ Some n → list_any p xs ≡ true
  found_any n found =
      let here = found_within n found in by xs refl here.0
    where
      by : (ys : List X) → ys ≡ xs → n < length xs → list_any p xs ≡ true
      by [] is within = absurd (let none : length xs ≡ 0 = ap length (sym is) in omega (arith, none, within))
      by (y ∷ ys) is within =
          let first = found_within n found in
          let there : position_or_len p xs < length xs = omega (arith, first.0, first.1) in
          list_any_at p xs (position_or_len p xs) y there (passes_at_first p xs y there)

  pub missed_any : position p xs ≡ None → list_any p xs ≡ false
  missed_any none =
      let end = missed none in
      list_any_none p xs (λ k d within. fails_before_first p xs k d (omega (arith, end, within)))

  module _ (y : X) where
    last_place : (n : ℕ) (fits : Bool) → position_or_len p (xs ++ y ∷ []) ≡ n → nat_lt n (length xs + 1) ≡ fits → position p (xs ++ y ∷ []) ≡ cond fits (Some n) None
    last_place n fits at test =
        let size : length (xs ++ y ∷ []) ≡ length xs + 1 = length_push xs y in
        (λ i. cond (nat_lt (at i) (size i)) (Some (at i)) None) ∙ ap (λ (b : Bool). cond b (Some n) None) test

    -- an element at the end is found where none was
    pub found_new : position p xs ≡ None → p y ≡ true → position p (xs ++ y ∷ []) ≡ Some (length xs)
    found_new none passes =
        let end = missed none in
        let tested : eqb (position_or_len p xs) (length xs) ≡ true = grind (arith, nat_tests) in
        let at : position_or_len p (xs ++ y ∷ []) ≡ length xs = position_or_len_push p xs y ∙ rw (tested, passes) (omega arith) in
        let fits : nat_lt (length xs) (length xs + 1) ≡ true = grind (arith, nat_tests) in
        last_place (length xs) true at fits

    -- what was found stays
    pub found_before : (n : ℕ) → position p xs ≡ Some n → position p (xs ++ y ∷ []) ≡ Some n
    found_before n found =
        let first = found_within n found in
        let tested : eqb (position_or_len p xs) (length xs) ≡ false = grind (arith, nat_tests) in
        let at : position_or_len p (xs ++ y ∷ []) ≡ n = position_or_len_push p xs y ∙ rw tested first.1 in
        let fits : nat_lt n (length xs + 1) ≡ true = grind (arith, nat_tests) in
        last_place n true at fits

    -- an element that does not pass is not found
    pub found_same : p y ≡ false → position p (xs ++ y ∷ []) ≡ position p xs
    found_same fails = by (position p xs) refl
      where
        by : (o : Option ℕ) → position p xs ≡ o → position p (xs ++ y ∷ []) ≡ o
        by (Some n) found = found_before n found
        by None none =
            let end = missed none in
            let tested : eqb (position_or_len p xs) (length xs) ≡ true = grind (arith, nat_tests) in
            let at : position_or_len p (xs ++ y ∷ []) ≡ length xs + 1 = position_or_len_push p xs y ∙ rw (tested, fails) refl in
            let fits : nat_lt (length xs + 1) (length xs + 1) ≡ false = grind (arith, nat_tests) in
            last_place (length xs + 1) false at fits

-- the equality of keys by which the table is hashed is that of the definitions
key_eq : (key other : StepKey) → eq-value.it key other ≡ (pointwise lit_eq key.lits.items other.lits.items && pointwise nat_eq key.hints.items other.hints.items)
key_eq key other = search rules

pub same_test : (step : Step) (key : StepKey) → IsKeyOf step key → ◌≡◌ {A = StepKey → Bool} (eq-value.it key) (is_key_of step)
same_test step key is = λ i other. (key_eq key other ∙ (λ j. pointwise lit_eq (is.lits j) other.lits.items && pointwise nat_eq (is.hints j) other.hints.items)) i

-- a key of one step against a key of another
keys_same : (step other : Step) (key next : StepKey) → IsKeyOf step key → IsKeyOf other next → eq-value.it key next ≡ step_eq step other
keys_same step other key next is also =
    key_eq key next ∙ (λ j. pointwise lit_eq (is.lits j) (also.lits j) && pointwise nat_eq (is.hints j) (also.hints j))

turned : (step other : Step) → step_eq step other ≡ false → step_eq other step ≡ false
turned step other apart = by (step_eq other step) refl
  where
    by : (b : Bool) → step_eq other step ≡ b → b ≡ false
    by false is = refl
    by true is = absurd (false≢true (sym apart ∙ subst (λ (s : Step). step_eq step s ≡ true) (sym (step_same other step is)) (same_step step)))

-- what a look-up by a key finds is the first place of its step
pub looked_up : (firsts : List (StepKey × ℕ)) (steps : List Step) (step : Step) (key : StepKey) → IsKeyOf step key → HasFirsts firsts steps → lookup (eq-value.it key) firsts ≡ position (step_eq step) steps
looked_up firsts steps step key is tells = ap (λ (test : StepKey → Bool). lookup test firsts) (same_test step key is) ∙ tells step key is

module _ (firsts : List (StepKey × ℕ)) (steps : List Step) (step : Step) (key : StepKey) (is : IsKeyOf step key) (tells : HasFirsts firsts steps) where
  -- a step that is there already changes no first place
  pub put_again : (n : ℕ) → lookup (eq-value.it key) firsts ≡ Some n → HasFirsts firsts (steps ++ step ∷ [])
  put_again n found other next also = tells other next also ∙ sym (by (step_eq other step) refl)
    where
      by : (b : Bool) → step_eq other step ≡ b → position (step_eq other) (steps ++ step ∷ []) ≡ position (step_eq other) steps
      by false apart = found_same (step_eq other) steps step apart
      by true same =
          let at : position (step_eq other) steps ≡ Some n =
          subst (λ (s : Step). position (step_eq s) steps ≡ Some n) (sym (step_same other step same)) (sym (looked_up firsts steps step key is tells) ∙ found) in
          found_before (step_eq other) steps step n at ∙ sym at

  -- a new step gets the place at the end
  pub put_new : (more : List (StepKey × ℕ)) (n : ℕ) → length steps ≡ n → lookup (eq-value.it key) firsts ≡ None
      → ((q : StepKey) → lookup (eq-value.it q) more ≡ cond (eq-value.it key q) (Some n) (lookup (eq-value.it q) firsts)) → HasFirsts more (steps ++ step ∷ [])
  put_new more n size none updates other next also =
      ap (λ (test : StepKey → Bool). lookup test more) (sym (same_test other next also)) ∙ updates next
      ∙ ap (λ (b : Bool). cond b (Some n) (lookup (eq-value.it next) firsts)) (keys_same step other key next is also) ∙ by (step_eq step other) refl
    where
      by : (b : Bool) → step_eq step other ≡ b → cond b (Some n) (lookup (eq-value.it next) firsts) ≡ position (step_eq other) (steps ++ step ∷ [])
      by false apart = looked_up firsts steps other next also tells ∙ sym (found_same (step_eq other) steps step (turned step other apart))
      by true same =
          let missing : position (step_eq step) steps ≡ None = sym (looked_up firsts steps step key is tells) ∙ none in
          let at : position (step_eq step) (steps ++ step ∷ []) ≡ Some (length steps) = found_new (step_eq step) steps step missing (same_step step) in
          ap (λ (k : ℕ). Some k) (sym size) ∙ sym (subst (λ (s : Step). position (step_eq s) (steps ++ step ∷ []) ≡ Some (length steps)) (step_same step other same) at)
