-- A movable certificate passes over the new shared list exactly where it passes over the old one.
use Rattle.std.proofs.Common.{◌≡◌, refl, ap, sym, ◌∙◌, subst, ℕ, ◌+◌, ◌<◌, ◌↔◌, true, cond, List, [], ◌∷◌, ◌++◌, Option, Some, None, length, map, take, drop, All, unwrap_or, arith}
use Rattle.std.specs.List.{count_by, slice_get}
use Rattle.std.specs.Option.{is_none, option_map, option_map_or}
use Rattle.std.proofs.lemmas.List.{append-nil, append_assoc, length-append, map-append, take-append-drop, take_at}
use Rattle.std.proofs.lemmas.List.Elements.{All-append, All-weaker}
use Rattle.std.proofs.lemmas.List.Sums.{sum_by_push}
use Rattle.std.proofs.lemmas.Option.{slice_get-map}
use Rattle.gp_clause.specs.declared.edge.Edge.{Edge}
use Rattle.gp_clause.specs.declared.kind.Kind.{Kind}
use Rattle.gp_clause.specs.declared.lit.Lit.{Lit}
use Rattle.gp_clause.specs.Clause.{NamesBelow}
use Rattle.gp_certificate.specs.declared.step.Step.{Step}
use Rattle.gp_certificate.specs.Certificate.{StepChecks, StepsCheck, clauses_of, StepPasses}
use Rattle.gp_certificate.specs.CheckingLaws.{steps_within}
use Rattle.gp_checker.specs.FrontLaws.{first_pass}
use Rattle.gp_base.specs.ListLaws.{slice_get_front}
use Rattle.gp_derivation.specs.Numbering.{with_hints}
use Rattle.gp_certificate.specs.Shared.{OwnStepsPass}
use Rattle.gp_certificate.specs.Step.{Passes, named}
use Rattle.gp_sharing.specs.declared.sizes.Sizes.{Sizes}
use Rattle.gp_sharing.specs.Moving.{are_movable, first_own, moved_step, moves, new_number, own_number, place_at, place_of, places_of, rests_on_earlier, shared_number, staying}
use Rattle.gp_compact.proofs.Alike.{passes_local}
use Rattle.gp_sharing.specs.FoundLaws.{both, placed_there}
use Rattle.gp_sharing.specs.GrownLaws.{BeginsWith, begins_itself}
use Rattle.gp_compact.proofs.Gathered.{has_hint, none_placed, placed_more}
use Rattle.gp_sharing.specs.PlaceLaws.{hints_below}
use Rattle.gp_compact.proofs.Gathering.{ArePlaced, map_length, moved_same, named_below}
use Rattle.gp_compact.proofs.Renamed.{HasHint, NamesSame, hinted_named, named_same, passes_renamed, renamed_passes, usable_named}
use Rattle.gp_compact.proofs.Sized.{IsSized, own_follow}
use Rattle.gp_compact.proofs.Stayed.{ArePlaces, AreRenumbered, all_unmapped, certificate_places, checks_at, first_renumbered, moved_renumbered, stayed_renumbered}

-- two facts about each of some hints are one
all_both : (P Q : ℕ → Type 0) (hints : List ℕ) → All P hints → All Q hints → All (λ hint. P hint × Q hint) hints
all_both P Q hints ps qs = λ k d within. (ps k d within, qs k d within)

-- a place in the middle of some
place_middle : (before rest : List (Option ℕ)) (place : Option ℕ) (places : List (Option ℕ)) (k : ℕ) → places ≡ before ++ place ∷ rest → k ≡ length before → place_at places k ≡ place
place_middle before rest place places k whole at =
    ap (λ (ps : List (Option ℕ)). place_at ps k) whole ∙ ap (λ (n : ℕ). place_at (before ++ place ∷ rest) n) at ∙ ap (λ (o : Option (Option ℕ)). unwrap_or o None) (got before)
  where
    got : (front : List (Option ℕ)) → slice_get (front ++ place ∷ rest) (length front) ≡ Some place
    got [] = refl
    got (first ∷ front) = got front

module _ (sizes : Sizes) (size : ℕ) (before rest places : List (Option ℕ)) (k : ℕ) where
  number_moved : (place : ℕ) → places ≡ before ++ Some place ∷ rest → k ≡ length before → own_number sizes size places k ≡ sizes.clauses + place
  number_moved place whole at =
      ap (λ (o : Option ℕ). option_map_or (λ (p : ℕ). sizes.clauses + p) o (sizes.clauses + size + count_by is_none (take k places))) (place_middle before rest (Some place) places k whole at)

  number_stayed : (kept : ℕ) → places ≡ before ++ None ∷ rest → k ≡ length before → count_by is_none before ≡ kept → own_number sizes size places k ≡ sizes.clauses + size + kept
  number_stayed kept whole at count =
      let front : take k places ≡ before = ap (take k) whole ∙ take_at before (None ∷ rest) k (sym at) in
      ap (λ (o : Option ℕ). option_map_or (λ (p : ℕ). sizes.clauses + p) o (sizes.clauses + size + count_by is_none (take k places))) (place_middle before rest None places k whole at)
      ∙ ap (λ (ps : List (Option ℕ)). sizes.clauses + size + count_by is_none ps) front ∙ ap (λ (n : ℕ). sizes.clauses + size + n) count

module _ (edges : List Edge) (kinds locals : List Kind) (base : List (List Lit)) (old : List Step) (sizes : Sizes) (is : IsSized kinds base old sizes) (list : List Step) (begins : BeginsWith old list) where
  abbrev ByKinds : List Kind → List Lit → List (List Lit) → Type 0
  ByKinds ks clause clauses = Passes edges ks clauses clause

  -- a step that moved to a place of a list that checks passes in its certificate
  moved_passes : (before : List (Option ℕ)) (own free : List (List Lit)) → ArePlaced list before own → (step : Step) (place : ℕ) → rests_on_earlier (first_own sizes + length own) step ≡ true → StepsCheck edges kinds base list
      → place_of sizes list before step ≡ Some place → StepPasses edges (kinds ++ locals) (base ++ clauses_of old ++ own) free step
  moved_passes before own free placed step place rests checks at = record {
    hints = λ k d within. let below = hints_below (first_own sizes + length own) step rests k d within in omega (arith, below, own_follow kinds base old sizes is, length-append (base ++ clauses_of old) own);
    passes = subst (ByKinds (kinds ++ locals) step.clause) (sym (usable_named edges (kinds ++ locals) first second f free step.hints some)) (subst (ByKinds (kinds ++ locals) step.clause) same local);
  }
    where
      first : List (List Lit)
      first = base ++ clauses_of old ++ own

      second : List (List Lit)
      second = base ++ clauses_of (take place list)

      f : ℕ → ℕ
      f = shared_number sizes before

      some : HasHint step
      some = has_hint (first_own sizes + length own) step rests

      there : (moves sizes before step ≡ true) × (place < length list) × (slice_get list place ≡ Some (moved_step sizes before step))
      there = placed_there sizes list before step place at

      step_checks : StepChecks edges kinds (base ++ clauses_of (take place list)) (moved_step sizes before step)
      step_checks = checks_at edges kinds base list place (moved_step sizes before step) checks there.2

      within : All (λ hint. shared_number sizes before hint < length (base ++ clauses_of (take place list))) step.hints
      within = all_unmapped (λ hint. hint < length (base ++ clauses_of (take place list))) (shared_number sizes before) step.hints step_checks.hints

      rest : List (List Lit)
      rest = clauses_of (drop place list)

      whole : base ++ clauses_of list ++ [] ≡ base ++ clauses_of (take place list) ++ clauses_of (drop place list)
      whole =
          append-nil (base ++ clauses_of list)
          ∙ ap (λ (cs : List (List Lit)). base ++ cs) (sym (ap clauses_of (take-append-drop place list)) ∙ map-append (λ (s : Step). s.clause) (take place list) (drop place list))
          ∙ sym (append_assoc base (clauses_of (take place list)) (clauses_of (drop place list)))

      names : All (NamesSame (base ++ clauses_of old ++ own) (base ++ clauses_of (take place list)) (shared_number sizes before)) step.hints
      names =
          All-weaker
          (λ hint. NamesSame (base ++ clauses_of old ++ own) (base ++ clauses_of list ++ []) (shared_number sizes before) hint × (shared_number sizes before hint < length (base ++ clauses_of (take place list))))
          (NamesSame (base ++ clauses_of old ++ own) (base ++ clauses_of (take place list)) (shared_number sizes before))
          (λ hint two. record {
            within = two.0.within;
            same = sym (slice_get_front (base ++ clauses_of (take place list)) (clauses_of (drop place list)) (shared_number sizes before hint) two.1)
                ∙ ap (λ (cs : List (List Lit)). slice_get cs (shared_number sizes before hint)) (sym whole) ∙ two.0.same;
          })
          step.hints
          (all_both (NamesSame (base ++ clauses_of old ++ own) (base ++ clauses_of list ++ []) (shared_number sizes before)) (λ hint. shared_number sizes before hint < length (base ++ clauses_of (take place list))) step.hints
          (moved_same kinds base old sizes is list begins before own [] placed step there.0) within)

      same : named (base ++ clauses_of (take place list)) (map (shared_number sizes before) step.hints) ≡ named (base ++ clauses_of old ++ own) step.hints
      same = named_same (base ++ clauses_of old ++ own) (base ++ clauses_of (take place list)) (shared_number sizes before) step.hints names

      below : All (NamesBelow (length kinds)) (base ++ clauses_of (take place list))
      below =
          let parted : base ++ clauses_of list ≡ base ++ clauses_of (take place list) ++ clauses_of (drop place list) = sym (append-nil (base ++ clauses_of list)) ∙ whole in
          All-append (NamesBelow (length kinds)) base (clauses_of (take place list)) is.below
          (λ k d inside. steps_within edges kinds (λ clauses. clauses) (λ clauses. clauses) base (take place list) (front_checks place) k d inside)
        where
          front_checks : (n : ℕ) → StepsCheck edges kinds base (take n list)
          front_checks n = first_pass edges kinds (λ clauses. clauses) (λ clauses. clauses) base list n checks

      local : Passes edges (kinds ++ locals) (named (base ++ clauses_of (take place list)) (map (shared_number sizes before) step.hints)) step.clause
      local =
          passes_local edges kinds locals (named (base ++ clauses_of (take place list)) (map (shared_number sizes before) step.hints)) step.clause
          (named_below (length kinds) (base ++ clauses_of (take place list)) (map (shared_number sizes before) step.hints) below)
          (subst (ByKinds kinds step.clause) (hinted_named (base ++ clauses_of (take place list)) (map (shared_number sizes before) step.hints) (map_length (shared_number sizes before) step.hints some)) step_checks.passes)

  -- the steps from here on, where these were before
  module _ (places : List (Option ℕ)) (checks : StepsCheck edges kinds base list) where
    abbrev Renumbered : List (List Lit) → List (List Lit) → Type 0
    Renumbered own kept = AreRenumbered kinds base old sizes is list begins places own kept

    abbrev f : ℕ → ℕ
    f = new_number sizes (length list) places

    all_named : (own kept : List (List Lit)) → Renumbered own kept → (step : Step) → rests_on_earlier (first_own sizes + length own) step ≡ true
        → All (NamesSame (base ++ clauses_of old ++ own) (base ++ clauses_of list ++ kept) f) step.hints
    all_named own kept renumbered step rests =
        All-weaker (λ hint. hint < first_own sizes + length own) (NamesSame (base ++ clauses_of old ++ own) (base ++ clauses_of list ++ kept) f) renumbered step.hints (hints_below (first_own sizes + length own) step rests)

    pub stays : (before rest : List (Option ℕ)) (own kept : List (List Lit)) (steps : List Step) → places ≡ before ++ rest → length before ≡ length own → count_by is_none before ≡ length kept
        → ArePlaced list before own → Renumbered own kept → ArePlaces sizes list before rest steps → are_movable (first_own sizes + length own) steps ≡ true
        → OwnStepsPass edges (kinds ++ locals) base (clauses_of old) own steps ↔ OwnStepsPass edges (kinds ++ locals) base (clauses_of list) kept (map (with_hints f) (staying rest steps))
    stays before [] own kept [] whole size count placed renumbered are movable = (λ _. tt, λ _. tt)
    stays before [] own kept (step ∷ []) whole size count placed renumbered are movable =
        let number = first_own sizes + length own in
        let rests = (both (rests_on_earlier number step) (are_movable (number + 1) []) movable).0 in
        let names = all_named own kept renumbered step rests in
        let some = has_hint number step rests in
        let first = base ++ clauses_of old ++ own in
        let second = base ++ clauses_of list ++ kept in (
          λ passes. (renamed_passes edges (kinds ++ locals) first second f (base ++ own) (base ++ kept) step some names passes.0, tt),
          λ passes. (passes_renamed edges (kinds ++ locals) first second f (base ++ own) (base ++ kept) step some names passes.0, tt),
        )
    stays before [] own kept (step ∷ next ∷ steps) whole size count placed renumbered are movable = absurd (omega (arith, are))
    stays before (place ∷ rest) own kept [] whole size count placed renumbered are movable = absurd are
    stays before (Some place ∷ rest) own kept (step ∷ steps) whole size count placed renumbered are movable =
        let number = first_own sizes + length own in
        let parts = both (rests_on_earlier number step) (are_movable (number + 1) steps) movable in
        let at : place_of sizes list before step ≡ Some place = sym are.0 in
        let there = placed_there sizes list before step place at in
        let clause : slice_get (clauses_of list) place ≡ Some step.clause = slice_get-map (λ (s : Step). s.clause) list place ∙ ap (λ (o : Option Step). option_map (λ (s : Step). s.clause) o) there.2 in
        let more_placed : ArePlaced list (before ++ Some place ∷ []) (own ++ step.clause ∷ []) =
        subst (λ (o : Option ℕ). ArePlaced list (before ++ o ∷ []) (own ++ step.clause ∷ [])) at (placed_more sizes list list before own step (begins_itself list) size placed) in
        let more_whole : places ≡ before ++ Some place ∷ [] ++ rest = whole ∙ sym (append_assoc before (Some place ∷ []) rest) in
        let more_size : length (before ++ Some place ∷ []) ≡ length (own ++ step.clause ∷ []) = omega (arith, size, length-append before (Some place ∷ []), length-append own (step.clause ∷ [])) in
        let more_count : count_by is_none (before ++ Some place ∷ []) ≡ length kept = omega (arith, count, sum_by_push (λ (o : Option ℕ). cond (is_none o) 1 0) before (Some place)) in
        let next : number + 1 ≡ first_own sizes + length (own ++ step.clause ∷ []) = omega (arith, length-append own (step.clause ∷ [])) in
        let more_renumbered = moved_renumbered kinds base old sizes is list begins places own kept step.clause renumbered place there.1 clause (number_moved sizes (length list) before rest places (length own) place whole (sym size)) in
        let rec = stays (before ++ Some place ∷ []) rest (own ++ step.clause ∷ []) kept steps more_whole more_size more_count more_placed more_renumbered are.1 (subst (λ (n : ℕ). are_movable n steps ≡ true) next parts.1) in (
          λ passes. rec.0 passes.1,
          λ passes. (moved_passes before own (base ++ own) placed step place parts.0 checks at, rec.1 passes),
        )
    stays before (None ∷ rest) own kept (step ∷ steps) whole size count placed renumbered are movable =
        let number = first_own sizes + length own in
        let parts = both (rests_on_earlier number step) (are_movable (number + 1) steps) movable in
        let more_placed : ArePlaced list (before ++ None ∷ []) (own ++ step.clause ∷ []) =
        subst (λ (o : Option ℕ). ArePlaced list (before ++ o ∷ []) (own ++ step.clause ∷ [])) (sym are.0) (placed_more sizes list list before own step (begins_itself list) size placed) in
        let more_whole : places ≡ before ++ None ∷ [] ++ rest = whole ∙ sym (append_assoc before (None ∷ []) rest) in
        let more_size : length (before ++ None ∷ []) ≡ length (own ++ step.clause ∷ []) = omega (arith, size, length-append before (None ∷ []), length-append own (step.clause ∷ [])) in
        let more_count : count_by is_none (before ++ None ∷ []) ≡ length (kept ++ step.clause ∷ []) = omega (arith, count, sum_by_push (λ (o : Option ℕ). cond (is_none o) 1 0) before None, length-append kept (step.clause ∷ [])) in
        let next : number + 1 ≡ first_own sizes + length (own ++ step.clause ∷ []) = omega (arith, length-append own (step.clause ∷ [])) in
        let more_renumbered = stayed_renumbered kinds base old sizes is list begins places own kept step.clause renumbered (number_stayed sizes (length list) before rest places (length own) (length kept) whole (sym size) count) in
        let rec = stays (before ++ None ∷ []) rest (own ++ step.clause ∷ []) (kept ++ step.clause ∷ []) steps more_whole more_size more_count more_placed more_renumbered are.1 (subst (λ (n : ℕ). are_movable n steps ≡ true) next parts.1) in
        let names = all_named own kept renumbered step parts.0 in
        let some = has_hint number step parts.0 in
        let first = base ++ clauses_of old ++ own in
        let second = base ++ clauses_of list ++ kept in (
          λ passes. (renamed_passes edges (kinds ++ locals) first second f (base ++ own) (base ++ kept) step some names passes.0, rec.0 passes.1),
          λ passes. (passes_renamed edges (kinds ++ locals) first second f (base ++ own) (base ++ kept) step some names passes.0, rec.1 passes.1),
        )

  -- a movable certificate passes over the list exactly where it passes over the old one
  pub movable_stays : StepsCheck edges kinds base list → (steps : List Step) → are_movable (first_own sizes) steps ≡ true
      → OwnStepsPass edges (kinds ++ locals) base (clauses_of old) [] steps
      ↔ OwnStepsPass edges (kinds ++ locals) base (clauses_of list) [] (map (with_hints (new_number sizes (length list) (places_of sizes list steps))) (staying (places_of sizes list steps) steps))
  movable_stays checks steps movable =
      let places = places_of sizes list steps in
      let none : first_own sizes ≡ first_own sizes + 0 = omega arith in
      stays places checks [] places [] [] steps refl refl refl (none_placed list) (first_renumbered kinds base old sizes is list begins places) (certificate_places sizes list steps)
      (subst (λ (n : ℕ). are_movable n steps ≡ true) none movable)
