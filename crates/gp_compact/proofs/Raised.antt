-- A certificate whose steps do not move passes over the new shared list exactly where it passes over the old one.
use Rattle.std.proofs.Common.{◌≡◌, refl, ap, sym, ◌∙◌, ℕ, ◌+◌, ◌-◌, ◌^◌, ◌<◌, ◌≤◌, ◌↔◌, Bool, true, false, not, ◌||◌, nat_lt, List, [], ◌∷◌, ◌++◌, length, map, arith}
use Rattle.std.specs.Prelude.{if◌then◌else◌}
use Rattle.std.specs.List.{slice_get}
use Rattle.std.proofs.lemmas.List.{length-append, length-map}
use Rattle.std.proofs.lemmas.List.Elements.{All-nil, All-weaker}
use Rattle.gp_clause.specs.declared.edge.Edge.{Edge}
use Rattle.gp_clause.specs.declared.kind.Kind.{Kind}
use Rattle.gp_clause.specs.declared.lit.Lit.{Lit}
use Rattle.gp_certificate.specs.declared.step.Step.{Step}
use Rattle.gp_certificate.specs.Certificate.{clauses_of, StepPasses}
use Rattle.gp_derivation.specs.Numbering.{with_hints}
use Rattle.gp_certificate.specs.Shared.{OwnStepsPass}
use Rattle.gp_sharing.specs.declared.sizes.Sizes.{Sizes}
use Rattle.gp_sharing.specs.Moving.{first_own, raised}
use Rattle.gp_compact.proofs.Renamed.{NamesSame, passes_renamed, renamed_passes}
use Rattle.gp_sharing.specs.GrownLaws.{BeginsWith}
use Rattle.gp_compact.proofs.Sized.{IsSized, front_over, front_same, own_follow, own_named}
use Rattle.gp_sharing.specs.FoundLaws.{is_less, is_not_less}
use Rattle.gp_compact.proofs.Stayed.{all_unmapped}

-- what becomes of a hint: it stays below the own steps, or is raised, or does not fit and stays
pub data IsRaised (sizes : Sizes) (gained hint new : ℕ) : Type 0 where
  low : hint < first_own sizes → new ≡ hint → IsRaised sizes gained hint new
  up : first_own sizes ≤ hint → hint + gained < 2 ^ 32 → new ≡ hint + gained → IsRaised sizes gained hint new
  high : first_own sizes ≤ hint → 2 ^ 32 ≤ hint + gained → new ≡ hint → IsRaised sizes gained hint new

is_raised : (sizes : Sizes) (gained hint : ℕ) → IsRaised sizes gained hint (raised sizes gained hint)
is_raised sizes gained hint = by (nat_lt hint (first_own sizes)) (nat_lt (hint + gained) (2 ^ 32)) refl refl
  where
    by : (b fits : Bool) → nat_lt hint (first_own sizes) ≡ b → nat_lt (hint + gained) (2 ^ 32) ≡ fits → IsRaised sizes gained hint (if b || not fits then hint else (hint + gained))
    by true fits before room = low (is_less hint (first_own sizes) before) refl
    by false true after room = up (is_not_less hint (first_own sizes) after) (is_less (hint + gained) (2 ^ 32) room) refl
    by false false after room = high (is_not_less hint (first_own sizes) after) (is_not_less (hint + gained) (2 ^ 32) room) refl

module _ (kinds : List Kind) (base : List (List Lit)) (old : List Step) (sizes : Sizes) (is : IsSized kinds base old sizes) (list : List Step) (begins : BeginsWith old list)
    (gained : ℕ) (gains : length list ≡ length old + gained) (own : List (List Lit)) (room : first_own sizes + gained + gained + length own ≤ 2 ^ 32) where
  over_list : Sizes
  over_list = record { clauses = sizes.clauses; variables = sizes.variables; shared = length list }

  over_sized : IsSized kinds base list (record { clauses = sizes.clauses; variables = sizes.variables; shared = length list })
  over_sized = record { clauses = is.clauses; variables = is.variables; shared = refl; below = is.below }

  first_size : length (base ++ clauses_of old ++ own) ≡ first_own sizes + length own
  first_size = omega (arith, own_follow kinds base old sizes is, length-append (base ++ clauses_of old) own)

  second_size : length (base ++ clauses_of list ++ own) ≡ first_own sizes + gained + length own
  second_size =
      omega (arith, gains, is.clauses, is.shared, length-append (base ++ clauses_of list) own, length-append base (clauses_of list), length-map list (λ (step : Step). step.clause))

  -- a hint in range names the same
  pub raised_same : (hint : ℕ) → hint < length (base ++ clauses_of old ++ own) → NamesSame (base ++ clauses_of old ++ own) (base ++ clauses_of list ++ own) (raised sizes gained) hint
  raised_same hint within = record { within = within; same = by (raised sizes gained hint) (is_raised sizes gained hint) }
    where
      by : (new : ℕ) → IsRaised sizes gained hint new → slice_get (base ++ clauses_of list ++ own) new ≡ slice_get (base ++ clauses_of old ++ own) hint
      by new (low below same) =
          ap (λ (n : ℕ). slice_get (base ++ clauses_of list ++ own) n) same ∙ front_over kinds base old sizes is list begins own hint below ∙ sym (front_same kinds base old sizes is own hint below)
      by new (up past fits same) =
          let sizes' : Sizes = record { clauses = sizes.clauses; variables = sizes.variables; shared = length list } in
          let over : first_own sizes' ≡ first_own sizes + gained = omega (arith, gains, is.shared) in
          let after : first_own sizes' ≤ hint + gained = omega (arith, over, past) in
          let place : hint + gained - first_own sizes' ≡ hint - first_own sizes = omega (arith, over, past) in
          ap (λ (n : ℕ). slice_get (base ++ clauses_of list ++ own) n) same
          ∙ own_named kinds base list sizes' over_sized own (hint + gained) after
          ∙ ap (λ (n : ℕ). slice_get own n) place
          ∙ sym (own_named kinds base old sizes is own hint past)
      by new (high past full same) = absurd (omega (arith, full, within, first_size, room))

  -- a hint out of range stays so
  pub raised_within : (hint : ℕ) → raised sizes gained hint < length (base ++ clauses_of list ++ own) → hint < length (base ++ clauses_of old ++ own)
  raised_within hint within = by (raised sizes gained hint) (is_raised sizes gained hint) within
    where
      by : (new : ℕ) → IsRaised sizes gained hint new → new < length (base ++ clauses_of list ++ own) → hint < length (base ++ clauses_of old ++ own)
      by new (low below same) inside = omega (arith, below, first_size)
      by new (up past fits same) inside = omega (arith, same, inside, first_size, second_size)
      by new (high past full same) inside = absurd (omega (arith, same, full, inside, second_size, room))

  module _ (edges : List Edge) (ks : List Kind) where
    bare_same : (clause : List Lit) → StepPasses edges ks (base ++ clauses_of old ++ own) (base ++ own) (record { clause = clause; hints = [] })
        ↔ StepPasses edges ks (base ++ clauses_of list ++ own) (base ++ own) (record { clause = clause; hints = [] })
    bare_same clause = (
      λ passes. record { hints = All-nil (λ hint. hint < length (base ++ clauses_of list ++ own)); passes = passes.passes },
      λ passes. record { hints = All-nil (λ hint. hint < length (base ++ clauses_of old ++ own)); passes = passes.passes },
    )

    pub raised_step : (clause : List Lit) (hints : List ℕ) → StepPasses edges ks (base ++ clauses_of old ++ own) (base ++ own) (record { clause = clause; hints = hints })
        ↔ StepPasses edges ks (base ++ clauses_of list ++ own) (base ++ own) (record { clause = clause; hints = map (raised sizes gained) hints })
    raised_step clause [] = bare_same clause
    raised_step clause (hint ∷ hints) =
        let first = base ++ clauses_of old ++ own in
        let second = base ++ clauses_of list ++ own in
        let step : Step = record { clause = clause; hints = hint ∷ hints } in
        let some : 0 < length (hint ∷ hints) = omega arith in (
          λ passes. renamed_passes edges ks first second (raised sizes gained) (base ++ own) (base ++ own) step some
              (All-weaker (λ h. h < length first) (NamesSame first second (raised sizes gained)) raised_same (hint ∷ hints) passes.hints) passes,
          λ passes. passes_renamed edges ks first second (raised sizes gained) (base ++ own) (base ++ own) step some
              (All-weaker (λ h. raised sizes gained h < length second) (NamesSame first second (raised sizes gained)) (λ h within. raised_same h (raised_within h within)) (hint ∷ hints)
              (all_unmapped (λ h. h < length second) (raised sizes gained) (hint ∷ hints) passes.hints)) passes,
        )

module _ (kinds : List Kind) (base : List (List Lit)) (old : List Step) (sizes : Sizes) (is : IsSized kinds base old sizes) (list : List Step) (begins : BeginsWith old list)
    (gained : ℕ) (gains : length list ≡ length old + gained) (edges : List Edge) (ks : List Kind) where
  -- so all steps pass where they passed
  pub raised_steps : (own : List (List Lit)) (steps : List Step) → first_own sizes + gained + gained + length own + length steps ≤ 2 ^ 32
      → OwnStepsPass edges ks base (clauses_of old) own steps ↔ OwnStepsPass edges ks base (clauses_of list) own (map (with_hints (raised sizes gained)) steps)
  raised_steps own [] room = (λ _. tt, λ _. tt)
  raised_steps own (step ∷ steps) room =
      let first = raised_step kinds base old sizes is list begins gained gains own (omega (arith, room)) edges ks step.clause step.hints in
      let rest = raised_steps (own ++ step.clause ∷ []) steps (omega (arith, room, length-append own (step.clause ∷ []))) in
      (λ passes. (first.0 passes.0, rest.0 passes.1), λ passes. (first.1 passes.0, rest.1 passes.1))
