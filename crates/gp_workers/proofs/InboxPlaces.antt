-- Lists of which one place after another is done.
use Rattle.std.proofs.Common.{◌≡◌, refl, sym, ◌∙◌, ap, subst, ℕ, zero, suc, ◌+◌, ◌<◌, ◌≤◌, ◌⊎◌, inl, inr, Some, List, [], ◌∷◌, ◌++◌, length, slice_set, arith}
use Rattle.std.specs.List.{slice_get}
use Rattle.std.proofs.lemmas.Bool.{cases_eq}
use Rattle.std.proofs.lemmas.List.{length_push}
use Rattle.std.proofs.lemmas.Option.{same_Some}
use Rattle.gp_workers.proofs.DeskPasses.{got_other, got_set}

module _ {X : Type 0} where
  -- what stands in two lists, one after the other
  pub got_left : (xs ys : List X) (place : ℕ) → place < length xs → slice_get (xs ++ ys) place ≡ slice_get xs place
  got_left [] ys place within = absurd (omega (arith, within))
  got_left (x ∷ xs) ys zero within = refl
  got_left (x ∷ xs) ys (suc place) within = got_left xs ys place (omega (arith, within))

  pub got_right : (xs ys : List X) (place : ℕ) → slice_get (xs ++ ys) (length xs + place) ≡ slice_get ys place
  got_right [] ys place = ap (λ (n : ℕ). slice_get ys n) (let same : 0 + place ≡ place = omega arith in same)
  got_right (x ∷ xs) ys place =
      let next : length (x ∷ xs) + place ≡ suc (length xs + place) = omega arith in ap (λ (n : ℕ). slice_get (x ∷ xs ++ ys) n) next ∙ got_right xs ys place

  pub got_last : (xs : List X) (x : X) → slice_get (xs ++ x ∷ []) (length xs) ≡ Some x
  got_last [] x = refl
  got_last (y ∷ xs) x = got_last xs x

  -- what stands where one place was set: the new one there, and the old one elsewhere
  pub set_cases : (xs new : List X) (place : ℕ) (x : X) → new ≡ slice_set xs place x → place < length xs → (other : ℕ) (one : X) → slice_get new other ≡ Some one
      → ((other ≡ place) × (x ≡ one)) ⊎ ((other ≡ place → ⊥) × (slice_get xs other ≡ Some one))
  set_cases xs new place x is within other one got = at (cases_eq other place)
    where
      now : slice_get (slice_set xs place x) other ≡ Some one
      now = ap (λ (ys : List X). slice_get ys other) (sym is) ∙ got

      at : (other ≡ place) ⊎ (other ≡ place → ⊥) → ((other ≡ place) × (x ≡ one)) ⊎ ((other ≡ place → ⊥) × (slice_get xs other ≡ Some one))
      at (inl same) = inl (same, same_Some x one (sym (got_set xs place x within) ∙ ap (λ (n : ℕ). slice_get (slice_set xs place x) n) (sym same) ∙ now))
      at (inr apart) = inr (apart, sym (got_other xs place other x apart) ∙ now)

  -- one place more is done, from the first on
  pub done_below : (Done : ℕ → X → Type 0) (old xs new : List X) (place : ℕ) (x : X) → place < length xs → new ≡ slice_set xs place x → ((other : ℕ) (one : X) → other < place → slice_get xs other ≡ Some one → Done other one)
      → ((other : ℕ) → place ≤ other → slice_get xs other ≡ slice_get old other) → Done place x
      → ((other : ℕ) (one : X) → other < place + 1 → slice_get new other ≡ Some one → Done other one) × ((other : ℕ) → place + 1 ≤ other → slice_get new other ≡ slice_get old other)
  done_below Done old xs new place x within is early late now = (
    (λ other one low got. at other one low (set_cases xs new place x is within other one got)),
    (λ other high. ap (λ (ys : List X). slice_get ys other) is ∙ got_other xs place other x (λ same. absurd (omega (arith, same, high))) ∙ late other (omega (arith, high))),
  )
    where
      at : (other : ℕ) (one : X) → other < place + 1 → ((other ≡ place) × (x ≡ one)) ⊎ ((other ≡ place → ⊥) × (slice_get xs other ≡ Some one)) → Done other one
      at other one low (inl same) = subst (λ (p : ℕ × X). Done p.0 p.1) (λ i. (sym same.0 i, same.1 i)) now
      at other one low (inr apart) = let below : other < place = (let away = apart.0 in omega (arith, low, away)) in early other one below apart.1

  -- one place more is done, from the last on
  pub done_above : (Done : ℕ → X → Type 0) (old xs new : List X) (place : ℕ) (x : X) → place < length xs → new ≡ slice_set xs place x → ((other : ℕ) (one : X) → place + 1 ≤ other → slice_get xs other ≡ Some one → Done other one)
      → ((other : ℕ) → other < place + 1 → slice_get xs other ≡ slice_get old other) → Done place x
      → ((other : ℕ) (one : X) → place ≤ other → slice_get new other ≡ Some one → Done other one) × ((other : ℕ) → other < place → slice_get new other ≡ slice_get old other)
  done_above Done old xs new place x within is late early now = (
    (λ other one high got. at other one high (set_cases xs new place x is within other one got)),
    (λ other low. ap (λ (ys : List X). slice_get ys other) is ∙ got_other xs place other x (λ same. absurd (omega (arith, same, low))) ∙ early other (omega (arith, low))),
  )
    where
      at : (other : ℕ) (one : X) → place ≤ other → ((other ≡ place) × (x ≡ one)) ⊎ ((other ≡ place → ⊥) × (slice_get xs other ≡ Some one)) → Done other one
      at other one high (inl same) = subst (λ (p : ℕ × X). Done p.0 p.1) (λ i. (sym same.0 i, same.1 i)) now
      at other one high (inr apart) = let above : place + 1 ≤ other = (let away = apart.0 in omega (arith, high, away)) in late other one above apart.1

  -- the last of what is left was taken off
  pub popped : (all left rest : List X) (x : X) → left ≡ rest ++ x ∷ [] → ((place : ℕ) → place < length left → slice_get left place ≡ slice_get all place)
      → (slice_get all (length rest) ≡ Some x) × ((place : ℕ) → place < length rest → slice_get rest place ≡ slice_get all place)
  popped all left rest x is same = (
    sym (same (length rest) (omega (arith, longer))) ∙ ap (λ (xs : List X). slice_get xs (length rest)) is ∙ got_last rest x,
    (λ place within. sym (got_left rest (x ∷ []) place within) ∙ ap (λ (xs : List X). slice_get xs place) (sym is) ∙ same place (omega (arith, within, longer))),
  )
    where
      longer : length left ≡ length rest + 1
      longer = ap (λ (xs : List X). length xs) is ∙ length_push rest x
