-- How far the steps of a certificate are gone through.
use Rattle.std.proofs.Common.{◌≡◌, refl, ap, sym, ◌∙◌, subst, ℕ, ◌+◌, ◌^◌, ◌<◌, ◌≤◌, ◌⊎◌, inl, inr, List, [], ◌∷◌, ◌++◌, Option, Some, None, length, get_or, drop, unwrap_or, arith}
use Rattle.std.proofs.lemmas.Bool.{cases_lt}
use Rattle.std.proofs.lemmas.List.{drop_more, length-append, length-drop}
use Rattle.gp_certificate.specs.declared.step.Step.{Step}
use Rattle.gp_sharing.specs.declared.sizes.Sizes.{Sizes}
use Rattle.gp_sharing.specs.FoundLaws.{placed_there}
use Rattle.gp_sharing.specs.GrownLaws.{moved_adds}
use Rattle.gp_sharing.specs.Moving.{PlacesFit, place_at, place_of, places_after, with_moved, with_steps}
use Rattle.gp_sharing.specs.PlaceLaws.{place_before, place_last, place_past}

-- a list from a place on begins with the element there
pub cut : {X : Type 0} (xs : List X) (x : X) (i : ℕ) → i < length xs → x ≡ get_or xs i x → drop i xs ≡ x ∷ drop (i + 1) xs
cut xs x i within is = drop_more xs i x within ∙ ap (λ y. y ∷ drop (i + 1) xs) (sym is)

-- a list without elements
pub none_left : {X : Type 0} (xs : List X) → length xs ≡ 0 → xs ≡ []
none_left [] none = refl
none_left (x ∷ xs) none = absurd (omega (arith, none))

module _ (sizes : Sizes) (list : List Step) where
  -- one own step more
  pub step_more : (places : List (Option ℕ)) (place : Option ℕ) (steps : List Step) (step : Step) (i : ℕ) (whole next : List Step) → i < length steps → step ≡ get_or steps i step
      → next ≡ with_moved sizes list places step → place ≡ place_of sizes next places step → with_steps sizes list places (drop i steps) ≡ whole → with_steps sizes next (places ++ place ∷ []) (drop (i + 1) steps) ≡ whole
  step_more places place steps step i whole next within is made at all =
      let rest = drop (i + 1) steps in
      ap (λ (o : Option ℕ). with_steps sizes next (places ++ o ∷ []) rest) at
      ∙ ap (λ (xs : List Step). with_steps sizes xs (places ++ place_of sizes xs places step ∷ []) rest) made
      ∙ ap (with_steps sizes list places) (sym (cut steps step i within is)) ∙ all

  pub step_left : (places : List (Option ℕ)) (steps : List Step) (step : Step) (i : ℕ) (next : List Step) → i < length steps → next ≡ with_moved sizes list places step
      → sizes.clauses + length list + length (drop i steps) < 2 ^ 31 → sizes.clauses + length next + length (drop (i + 1) steps) < 2 ^ 31
  step_left places steps step i next within made room =
      let size : length next ≡ length (with_moved sizes list places step) = ap length made in
      omega (arith, room, size, within, moved_adds sizes list places step, length-drop i steps, length-drop (i + 1) steps)

  -- the places of own steps over a whole list
  pub place_more : (places : List (Option ℕ)) (place : Option ℕ) (steps : List Step) (step : Step) (i : ℕ) (whole : List (Option ℕ)) → i < length steps → step ≡ get_or steps i step → place ≡ place_of sizes list places step
      → places_after sizes list places (drop i steps) ≡ whole → places_after sizes list (places ++ place ∷ []) (drop (i + 1) steps) ≡ whole
  place_more places place steps step i whole within is at all =
      ap (λ (o : Option ℕ). places_after sizes list (places ++ o ∷ []) (drop (i + 1) steps)) at ∙ ap (places_after sizes list places) (sym (cut steps step i within is)) ∙ all

-- the numbers of places fit with one more
pub fit_more : (sizes : Sizes) (list : List Step) (places : List (Option ℕ)) (place : Option ℕ) (step : Step) → PlacesFit sizes places → place ≡ place_of sizes list places step
    → sizes.clauses + length list < 2 ^ 32 → PlacesFit sizes (places ++ place ∷ [])
fit_more sizes list places place step fit at room = λ own. by own (cases_lt own (length places))
  where
    here : (o : Option ℕ) → place ≡ o → sizes.clauses + unwrap_or o 0 < 2 ^ 32
    here None is = omega (arith, room)
    here (Some p) is = let there = placed_there sizes list places step p (sym at ∙ is) in omega (arith, room, there.1)

    by : (own : ℕ) → (own < length places) ⊎ (length places ≤ own) → sizes.clauses + unwrap_or (place_at (places ++ place ∷ []) own) 0 < 2 ^ 32
    by own (inl before) = subst (λ (o : Option ℕ). sizes.clauses + unwrap_or o 0 < 2 ^ 32) (sym (place_before places place own before)) (fit own)
    by own (inr after) = further (cases_lt (length places) own)
      where
        further : (length places < own) ⊎ (own ≤ length places) → sizes.clauses + unwrap_or (place_at (places ++ place ∷ []) own) 0 < 2 ^ 32
        further (inl past) =
            let none : place_at (places ++ place ∷ []) own ≡ None = place_past (places ++ place ∷ []) own (omega (arith, past, length-append places (place ∷ []))) in
            subst (λ (o : Option ℕ). sizes.clauses + unwrap_or o 0 < 2 ^ 32) (sym none) (omega (arith, room))
        further (inr within) =
            let same : length places ≡ own = omega (arith, after, within) in
            subst (λ (n : ℕ). sizes.clauses + unwrap_or (place_at (places ++ place ∷ []) n) 0 < 2 ^ 32) same
            (subst (λ (o : Option ℕ). sizes.clauses + unwrap_or o 0 < 2 ^ 32) (sym (place_last places place)) (here place refl))
