-- The last step of a certificate stays the last, with its clause.
use Rattle.std.proofs.Common.{◌≡◌, refl, ap, sym, ◌∙◌, subst, ℕ, ◌+◌, ◌-◌, ◌≤◌, ◌↔◌, List, [], ◌∷◌, ◌++◌, Option, Some, None, length, map, All, Contains, arith}
use Rattle.std.proofs.lemmas.List.{length-append, length-take, map_push, same_from_push}
use Rattle.gp_clause.specs.declared.lit.Lit.{Lit}
use Rattle.gp_clause.specs.declared.problem.Query.{Query}
use Rattle.gp_clause.specs.Lit.{opposite}
use Rattle.gp_certificate.specs.declared.step.Step.{Step}
use Rattle.gp_certificate.specs.Certificate.{IsLast}
use Rattle.gp_derivation.specs.Numbering.{with_hints}
use Rattle.gp_sharing.specs.declared.sizes.Sizes.{Sizes}
use Rattle.gp_checker.specs.Accepted.{RefutesAtLast}
use Rattle.gp_sharing.specs.Moving.{front_of, places_of, staying}
use Rattle.gp_sharing.specs.PlaceLaws.{places_count}

-- two lists have no steps, or last ones with one clause
pub data EndAlike (steps other : List Step) : Type 0 where
  none : steps ≡ [] → other ≡ [] → EndAlike steps other
  some : (front more : List Step) (last end : Step) → steps ≡ front ++ last ∷ [] → other ≡ more ++ end ∷ [] → end.clause ≡ last.clause → EndAlike steps other

-- the last of a list that has one
only_last : (steps front : List Step) (last step : Step) → steps ≡ front ++ last ∷ [] → IsLast steps step → step ≡ last
only_last steps front last step is (before, ends) = (same_from_push before front step last (sym ends ∙ is)).1

nothing_last : (steps : List Step) (step : Step) → steps ≡ [] → IsLast steps step → ⊥
nothing_last steps step is (before, ends) =
    let none : length (before ++ step ∷ []) ≡ 0 = ap length (sym ends ∙ is) in omega (arith, none, length-append before (step ∷ []))

module _ (query : Query) where
  pub refutes_alike : (steps other : List Step) → EndAlike steps other → RefutesAtLast query steps ↔ RefutesAtLast query other
  refutes_alike steps other (none is also) = (
    λ refutes. absurd (nothing_last steps refutes.0 is refutes.1),
    λ refutes. absurd (nothing_last other refutes.0 also refutes.1),
  )
  refutes_alike steps other (some front more last end is also same) = (
    λ refutes. (
      end,
      (more, also),
      subst (λ (clause : List Lit). All (λ lit. Contains query.assumed (opposite lit)) clause) (ap (λ (s : Step). s.clause) (only_last steps front last refutes.0 is refutes.1) ∙ sym same) refutes.2,
    ),
    λ refutes. (
      last,
      (front, is),
      subst (λ (clause : List Lit). All (λ lit. Contains query.assumed (opposite lit)) clause) (ap (λ (s : Step). s.clause) (only_last other more end refutes.0 also refutes.1) ∙ same) refutes.2,
    ),
  )

-- a list is empty or has a last step
data HasLast (steps : List Step) : Type 0 where
  empty : steps ≡ [] → HasLast steps
  last_one : (front : List Step) (last : Step) → steps ≡ front ++ last ∷ [] → HasLast steps

has_last : (steps : List Step) → HasLast steps
has_last [] = empty refl
has_last (step ∷ steps) = by (has_last steps)
  where
    by : HasLast steps → HasLast (step ∷ steps)
    by (empty is) = last_one [] step (ap (λ (xs : List Step). step ∷ xs) is)
    by (last_one front last is) = last_one (step ∷ front) last (ap (λ (xs : List Step). step ∷ xs) is)

-- new hints change no end
pub hints_alike : (f : ℕ → ℕ) (steps : List Step) → EndAlike steps (map (with_hints f) steps)
hints_alike f steps = by (has_last steps)
  where
    by : HasLast steps → EndAlike steps (map (with_hints f) steps)
    by (empty is) = none is (ap (map (with_hints f)) is)
    by (last_one front last is) = some front (map (with_hints f) front) last (with_hints f last) is (ap (map (with_hints f)) is ∙ map_push (with_hints f) front last) refl

-- the last step stays where it has no place
stays_last : (places : List (Option ℕ)) (front : List Step) (last : Step) → length places ≤ length front → staying places (front ++ last ∷ []) ≡ staying places front ++ last ∷ []
stays_last [] front last few = refl
stays_last (place ∷ places) [] last few = absurd (omega (arith, few))
stays_last (Some place ∷ places) (step ∷ front) last few = stays_last places front last (omega (arith, few))
stays_last (None ∷ places) (step ∷ front) last few = ap (λ (xs : List Step). step ∷ xs) (stays_last places front last (omega (arith, few)))

pub staying_alike : (sizes : Sizes) (list : List Step) (f : ℕ → ℕ) (steps : List Step) → EndAlike steps (map (with_hints f) (staying (places_of sizes list steps) steps))
staying_alike sizes list f steps = by (has_last steps)
  where
    places : List (Option ℕ)
    places = places_of sizes list steps

    by : HasLast steps → EndAlike steps (map (with_hints f) (staying (places_of sizes list steps) steps))
    by (empty is) = none is (ap (λ (xs : List Step). map (with_hints f) (staying (places_of sizes list xs) xs)) is)
    by (last_one front last is) =
        let size : length steps ≡ length front + 1 = ap length is ∙ length-append front (last ∷ []) in
        let few : length (places_of sizes list steps) ≤ length front = omega (arith, size, places_count sizes list [] (front_of steps), length-take (length steps - 1) steps) in
        let stays : staying (places_of sizes list steps) steps ≡ staying (places_of sizes list steps) front ++ last ∷ [] =
        ap (λ (xs : List Step). staying (places_of sizes list steps) xs) is ∙ stays_last (places_of sizes list steps) front last few in
        some front (map (with_hints f) (staying (places_of sizes list steps) front)) last (with_hints f last) is
        (ap (map (with_hints f)) stays ∙ map_push (with_hints f) (staying (places_of sizes list steps) front) last) refl
