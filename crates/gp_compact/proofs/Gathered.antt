-- The shared list that a window's certificates give checks where they do.
use Rattle.std.proofs.Common.{◌≡◌, refl, ap, sym, ◌∙◌, subst, ℕ, zero, suc, ◌+◌, ◌-◌, ◌<◌, ◌≤◌, ◌⊎◌, inl, inr, Bool, true, false, not, ◌==◌, nat_lt, List, [], ◌∷◌, ◌++◌, Option, Some, if◌then◌else◌, length, take, arith}
use Rattle.std.specs.List.{list_all, list_any, slice_get}
use Rattle.std.specs.Option.{option_map}
use Rattle.std.proofs.lemmas.Bool.{cases_lt, false≢true}
use Rattle.std.proofs.lemmas.List.{length-append, length-map, map-append}
use Rattle.std.proofs.lemmas.Option.{none-some, slice_get-map}
use Rattle.gp_clause.specs.declared.edge.Edge.{Edge}
use Rattle.gp_clause.specs.declared.kind.Kind.{Kind}
use Rattle.gp_clause.specs.declared.lit.Lit.{Lit}
use Rattle.gp_certificate.specs.declared.step.Step.{Step}
use Rattle.gp_certificate.specs.Certificate.{StepsCheck, clauses_of, StepPasses}
use Rattle.gp_certificate.specs.CheckingLaws.{check_append}
use Rattle.gp_checker.specs.FrontLaws.{first_pass}
use Rattle.gp_base.specs.ListLaws.{slice_get_back, slice_get_front}
use Rattle.gp_certificate.specs.Shared.{OwnStepsPass}
use Rattle.gp_sharing.specs.declared.sizes.Sizes.{Sizes}
use Rattle.gp_sharing.specs.Moving.{are_movable, first_own, front_of, moved_step, moves, place_at, place_of, rests_on_earlier, step_eq, with_certificate, with_moved, with_step, with_steps}
use Rattle.gp_sharing.specs.FoundLaws.{both, placed_there}
use Rattle.gp_compact.proofs.Gathering.{ArePlaced, moved_checks}
use Rattle.gp_compact.proofs.Renamed.{HasHint}
use Rattle.gp_sharing.specs.GrownLaws.{BeginsWith, begins_length, begins_through, moved_begins}
use Rattle.gp_compact.proofs.Sized.{IsSized}
use Rattle.gp_sharing.specs.PlaceLaws.{place_before, place_last, place_past}

-- a list that begins with another has its clauses where the other has them
pub begins_clauses : (first second : List Step) → BeginsWith first second → (place : ℕ) → place < length first → slice_get (clauses_of second) place ≡ slice_get (clauses_of first) place
begins_clauses first second (more, is) place within =
    ap (λ (xs : List Step). slice_get (clauses_of xs) place) is
    ∙ ap (λ (cs : List (List Lit)). slice_get cs place) (map-append (λ (step : Step). step.clause) first more)
    ∙ slice_get_front (clauses_of first) (clauses_of more) place (omega (arith, within, length-map first (λ (step : Step). step.clause)))

pub last_clause : (own : List (List Lit)) (clause : List Lit) (k : ℕ) → k ≡ length own → slice_get (own ++ clause ∷ []) k ≡ Some clause
last_clause own clause k is =
    let at : slice_get (own ++ clause ∷ []) (length own + 0) ≡ Some clause = slice_get_back own (clause ∷ []) 0 in
    let same : length own + 0 ≡ k = omega (arith, is) in subst (λ (n : ℕ). slice_get (own ++ clause ∷ []) n ≡ Some clause) same at

-- one step more has its place in a list that grows
pub placed_more : (sizes : Sizes) (list more : List Step) (places : List (Option ℕ)) (own : List (List Lit)) (step : Step) → BeginsWith list more → length places ≡ length own
    → ArePlaced list places own → ArePlaced more (places ++ place_of sizes more places step ∷ []) (own ++ step.clause ∷ [])
placed_more sizes list more places own step begins size placed = λ k place at. by k place at (cases_lt k (length places))
  where
    last : Option ℕ
    last = place_of sizes more places step

    by : (k place : ℕ) → place_at (places ++ last ∷ []) k ≡ Some place → (k < length places) ⊎ (length places ≤ k)
        → (place < length more) × (k < length (own ++ step.clause ∷ [])) × (slice_get (clauses_of more) place ≡ slice_get (own ++ step.clause ∷ []) k)
    by k place at (inl before) =
        let here = placed k place (sym (place_before places last k before) ∙ at) in
        let longer = begins_length list more begins in (
          omega (arith, here.0, longer),
          omega (arith, here.1, length-append own (step.clause ∷ [])),
          begins_clauses list more begins place here.0 ∙ here.2 ∙ sym (slice_get_front own (step.clause ∷ []) k here.1),
        )
    by k place at (inr after) = further (cases_lt (length places) k)
      where
        further : (length places < k) ⊎ (k ≤ length places)
            → (place < length more) × (k < length (own ++ step.clause ∷ [])) × (slice_get (clauses_of more) place ≡ slice_get (own ++ step.clause ∷ []) k)
        further (inl past) = absurd (none-some place (sym (place_past (places ++ last ∷ []) k (omega (arith, past, length-append places (last ∷ [])))) ∙ at))
        further (inr within) =
            let same : k ≡ length places = omega (arith, after, within) in
            let here : last ≡ Some place = sym (place_last places last) ∙ subst (λ (n : ℕ). place_at (places ++ last ∷ []) n ≡ Some place) same at in
            let there = placed_there sizes more places step place here in (
              there.1,
              omega (arith, same, size, length-append own (step.clause ∷ [])),
              slice_get-map (λ (s : Step). s.clause) more place ∙ ap (λ (o : Option Step). option_map (λ (s : Step). s.clause) o) there.2
                  ∙ sym (last_clause own step.clause k (omega (arith, same, size))),
            )

-- a step that rests on earlier ones has a hint
pub has_hint : (number : ℕ) (step : Step) → rests_on_earlier number step ≡ true → HasHint step
has_hint number step rests = some step.hints (both (not (length step.hints == 0)) (list_all (λ hint. nat_lt hint number) step.hints) rests).0
  where
    some : (hints : List ℕ) → not (length hints == 0) ≡ true → 0 < length hints
    some [] h = absurd (false≢true h)
    some (hint ∷ hints) h = omega arith

-- the first steps of a certificate may move where all may
pub movable_front : (number n : ℕ) (steps : List Step) → are_movable number steps ≡ true → are_movable number (take n steps) ≡ true
movable_front number zero steps movable = refl
movable_front number (suc n) [] movable = refl
movable_front number (suc n) (step ∷ steps) movable =
    let parts = both (rests_on_earlier number step) (are_movable (number + 1) steps) movable in
    let rest : are_movable (number + 1) (take n steps) ≡ true = movable_front (number + 1) n steps parts.1 in
    rw (parts.0, rest) refl

-- before the first step nothing has a place
pub none_placed : (list : List Step) → ArePlaced list [] []
none_placed list = λ k place at. absurd (none-some place (sym (place_past [] k (omega arith)) ∙ at))

module _ (edges : List Edge) (kinds : List Kind) (base : List (List Lit)) (old : List Step) (sizes : Sizes) (is : IsSized kinds base old sizes) where
  moved_list : (locals : List Kind) (list : List Step) → BeginsWith old list → (places : List (Option ℕ)) (own free : List (List Lit)) → ArePlaced list places own → (step : Step) → HasHint step
      → StepsCheck edges kinds base list → StepPasses edges (kinds ++ locals) (base ++ clauses_of old ++ own) free step → StepsCheck edges kinds base (with_moved sizes list places step)
  moved_list locals list begins places own free placed step some checks passes = by (moves sizes places step) refl
    where
      moved : Step
      moved = moved_step sizes places step

      pushed : moves sizes places step ≡ true → (b : Bool) → StepsCheck edges kinds base (if b then list else (list ++ moved_step sizes places step ∷ []))
      pushed moving true = checks
      pushed moving false =
          check_append edges kinds base list (moved_step sizes places step ∷ []) checks (moved_checks edges kinds locals base old sizes is list begins places own free placed step some moving checks passes, tt)

      by : (b : Bool) → moves sizes places step ≡ b → StepsCheck edges kinds base (if b then with_step list (moved_step sizes places step) else list)
      by true moving = pushed moving (list_any (step_eq (moved_step sizes places step)) list)
      by false moving = checks

  -- a list that checks does so with the steps of a certificate that move, where they pass in it
  pub gather_steps : (locals : List Kind) (list : List Step) → BeginsWith old list → (places : List (Option ℕ)) (own : List (List Lit)) → length places ≡ length own → ArePlaced list places own → (steps : List Step)
      → are_movable (first_own sizes + length own) steps ≡ true → StepsCheck edges kinds base list → OwnStepsPass edges (kinds ++ locals) base (clauses_of old) own steps
      → StepsCheck edges kinds base (with_steps sizes list places steps)
  gather_steps locals list begins places own size placed [] movable checks passes = checks
  gather_steps locals list begins places own size placed (step ∷ steps) movable checks passes =
      let number = first_own sizes + length own in
      let parts = both (rests_on_earlier number step) (are_movable (number + 1) steps) movable in
      let more = with_moved sizes list places step in
      let last = place_of sizes more places step in
      let longer : BeginsWith list more = moved_begins sizes list places step in
      let next : number + 1 ≡ first_own sizes + length (own ++ step.clause ∷ []) = omega (arith, length-append own (step.clause ∷ [])) in
      let more_size : length (places ++ last ∷ []) ≡ length (own ++ step.clause ∷ []) = omega (arith, size, length-append own (step.clause ∷ []), length-append places (last ∷ [])) in
      gather_steps locals more (begins_through old list more begins longer) (places ++ last ∷ []) (own ++ step.clause ∷ []) more_size (placed_more sizes list more places own step longer size placed) steps
      (subst (λ (n : ℕ). are_movable n steps ≡ true) next parts.1)
      (moved_list locals list begins places own (base ++ own) placed step (has_hint number step parts.0) checks passes.0) passes.1

  pub gather_certificate : (locals : List Kind) (list : List Step) → BeginsWith old list → (steps : List Step) → StepsCheck edges kinds base list → OwnStepsPass edges (kinds ++ locals) base (clauses_of old) [] steps
      → StepsCheck edges kinds base (with_certificate sizes list steps)
  gather_certificate locals list begins steps checks passes = by (are_movable (first_own sizes) steps) refl
    where
      by : (b : Bool) → are_movable (first_own sizes) steps ≡ b → StepsCheck edges kinds base (if b then with_steps sizes list [] (front_of steps) else list)
      by true movable =
          let none : first_own sizes ≡ first_own sizes + 0 = omega arith in
          gather_steps locals list begins [] [] refl (none_placed list) (front_of steps)
          (subst (λ (n : ℕ). are_movable n (front_of steps) ≡ true) none (movable_front (first_own sizes) (length steps - 1) steps movable)) checks
          (first_pass edges (kinds ++ locals) (λ clauses. base ++ clauses_of old ++ clauses) (λ clauses. base ++ clauses) [] steps (length steps - 1) passes)
      by false movable = checks
