-- What hints number is told as grounds.
use Rattle.std.proofs.Common.{ℕ, zero, suc, ◌≡◌, ◌+◌, ◌<◌, ◌≤◌, refl, ap, sym, ◌∙◌, subst, inl, inr, arith, append-nil, append_assoc, Bool, true, false, List, [], ◌∷◌, ◌++◌, Contains, length, map}
use Rattle.std.specs.Prelude.{◌==◌, Option, None, Some, slice_get}
use Rattle.std.specs.List.{position_from}
use Rattle.std.specs.Option.{option_map}
use Rattle.std.proofs.lemmas.Bool.{both_ways, cases_Bool, cond-false, cond-true, eq-eqb, eqb-true}
use Rattle.std.proofs.lemmas.Iterator.Adapters.{position_from-zero}
use Rattle.std.proofs.lemmas.List.Elements.{Contains-append_cases}
use Rattle.std.proofs.lemmas.Option.{get_or_from_slice_get, slice_get-map}
use Rattle.gp_base.specs.ListLaws.{contains_flat_map, contains_middle, contains_parts, first_or_rest, got_front, here, nothing_in, Pairwise, recursion_at}
use Rattle.gp_certificate.specs.declared.certificate.Certificate.{Certificate}
use Rattle.gp_certificate.specs.declared.step.Step.{Step}
use Rattle.gp_clause.specs.declared.lit.Lit.{Lit}
use Rattle.gp_constraint.specs.declared.base_family.BaseFamily.{BaseFamily}
use Rattle.gp_constraint.specs.declared.symbol.Symbol.{Symbol}
use Rattle.gp_constraint.specs.declared.symbol.SymbolicLit.{SymbolicLit}
use Rattle.gp_constraint.specs.Base.{base_of, clauses_of, first_names}
use Rattle.gp_constraint.specs.EncodedLaws.{numbered_size}
use Rattle.gp_constraint.specs.Query.{query_names}
use Rattle.gp_property.specs.PropertyForm.{PropertyForm}
use Rattle.gp_reason.specs.declared.reasons.Ground.{Ground}
use Rattle.gp_reason.specs.declared.reasons.Ground.TheVariants.{Base, Earlier, ThreadOrder}
use Rattle.gp_reason.specs.declared.reasons.ReasonStep.{ReasonStep}
use Rattle.gp_reason.specs.Cycles.{forces_nothing, numbered_clauses}
use Rattle.gp_reason.specs.Facts.{facts_of}
use Rattle.gp_reason.specs.Families.{family_at}
use Rattle.gp_reason.specs.Laws.{FamiliesAreTold, ReasonsTellWhatTheyRestOn}
use Rattle.gp_reason.specs.Reasons.{clause_at, ground_of, grounds_of, named_ground, place_of, reason_of, step_ground, step_of, steps_from}
use Rattle.gp_reason.specs.Told.{all_steps, numbered, numbered_from, NumberedStep, told_of}
use Rattle.gp_window.specs.declared.schedule.EventId.{EventId}
use Rattle.gp_window.specs.WindowForm.{WindowForm}
use Rattle.gp_reasoned.specs.Laws.{IsGrounded}
use Rattle.gp_reasoned.proofs.Truly.{told_within}

-- a ground of one of some hints is told where these are
of_hints : (window : WindowForm) (names : List Symbol) (place : ℕ → Option ℕ) (hint : ℕ) (hints : List ℕ) (ground : Ground) → Contains hints hint → Contains (ground_of window names place hint) ground
    → Contains (grounds_of window names place false hints) ground
of_hints window names place hint [] ground i j = absurd (nothing_in hint i)
of_hints window names place hint (first ∷ hints) ground i j = contains_flat_map (ground_of window names place) (first ∷ hints) hint ground i j

-- a number of a clause of the window has a clause over symbols
symbolic : (clauses : List (List SymbolicLit)) (number : ℕ) → number < length clauses → (clause : List SymbolicLit) × (slice_get clauses number ≡ Some clause)
symbolic [] number below = absurd (omega (arith, below))
symbolic (clause ∷ clauses) zero below = (clause, refl)
symbolic (clause ∷ clauses) (suc number) below = symbolic clauses number (omega (arith, below))

got_within : (clauses : List (List Lit)) (number : ℕ) (clause : List Lit) → slice_get clauses number ≡ Some clause → number < length clauses
got_within [] number clause got = cc
got_within (first ∷ clauses) zero clause got = omega arith
got_within (first ∷ clauses) (suc number) clause got = let rest = got_within clauses number clause got in omega (arith, rest)

-- the ground of a clause of the window
window_ground : FamiliesAreTold → (window : WindowForm) (names : List Symbol) (place : ℕ → Option ℕ) (hint : ℕ) (clause : List Lit) → slice_get (base_of window).clauses hint ≡ Some clause
    → (family : BaseFamily) × Contains (ground_of window names place hint) (Base family (facts_of window names clause))
window_ground law window names place hint clause got =
    let within = got_within (base_of window).clauses hint clause got in
    let size = numbered_size (first_names window) (clauses_of window) in
    let over = symbolic (clauses_of window) hint (omega (arith, within, size)) in
    let family = law.family window hint over.0 over.1 in
    let is : ground_of window names place hint ≡ Base family.0 (facts_of window names (clause_at window hint)) ∷ [] = ap (named_ground window names place hint) family.1 in
    let same : clause_at window hint ≡ clause = get_or_from_slice_get (base_of window).clauses hint clause [] got in (
      family.0,
      subst (λ (list : List Ground). Contains list (Base family.0 (facts_of window names clause))) (sym is)
          (subst (λ (lits : List Lit). Contains (Base family.0 (facts_of window names lits) ∷ []) (Base family.0 (facts_of window names clause))) (sym same) (here _ [])),
    )

alone : (window : WindowForm) (names : List Symbol) (place : ℕ → Option ℕ) (hint : ℕ) (hints : List ℕ) → Contains hints hint → grounds_of window names place true hints ≡ ThreadOrder ∷ []
alone window names place hint [] i = absurd (nothing_in hint i)
alone window names place hint (first ∷ hints) i = refl

-- a step that is told, behind those told before
split : (window : WindowForm) (names : List Symbol) (clauses : List (List Lit)) (before told : List NumberedStep) (step : ReasonStep) → Contains (steps_from window names clauses before told) step
    → (front : List NumberedStep) × (one : NumberedStep) × (back : List NumberedStep) × (told ≡ front ++ one ∷ back)
    × (step_of window names clauses (place_of (before ++ front)) one.number one.step ≡ step)
split window names clauses before [] step i = absurd (nothing_in step i)
split window names clauses before (one ∷ told) step i =
    elim (first_or_rest (step_of window names clauses (place_of before) one.number one.step) (steps_from window names clauses (before ++ one ∷ []) told) step i) [
      | inl same ↦
          ([], one, told, refl, subst (λ (list : List NumberedStep). step_of window names clauses (place_of list) one.number one.step ≡ step) (sym (append-nil before)) same)
      | inr later ↦
          let rest = split window names clauses (before ++ one ∷ []) told step later in (
            one ∷ rest.0,
            rest.1,
            rest.2,
            ap (λ (list : List NumberedStep). one ∷ list) rest.3,
            subst (λ (list : List NumberedStep). step_of window names clauses (place_of list) rest.1.number rest.1.step ≡ step) (append_assoc before (one ∷ []) rest.0) rest.4,
          )
    ]

-- what stands behind an element of rising ones has a greater number
abbrev Rises : NumberedStep → NumberedStep → Type 0
Rises one other = one.number < other.number

behind : (front back : List NumberedStep) (one other : NumberedStep) → Pairwise Rises (front ++ one ∷ back) → Contains back other → one.number < other.number
behind [] back one other rises i = recursion_at (Rises one) back other rises.0 i
behind (first ∷ front) back one other rises i = behind front back one other rises.1 i

-- one with a lesser number stands before it
in_front : (front back : List NumberedStep) (one prior : NumberedStep) → Pairwise Rises (front ++ one ∷ back) → Contains (front ++ one ∷ back) prior → prior.number < one.number → Contains front prior
in_front front back one prior rises i less =
    elim (contains_parts prior one front back i) [
      | inl early ↦ early
      | inr other ↦ elim other [
        | inl same ↦ let number : one.number ≡ prior.number = ap (λ (s : NumberedStep). s.number) same in absurd (omega (arith, number, less))
        | inr late ↦ let more = behind front back one prior rises late in absurd (omega (arith, more, less))
      ]
    ]

-- the first place at which a test passes
found_from : (test : NumberedStep → Bool) (start : ℕ) (steps : List NumberedStep) (step : NumberedStep) → Contains steps step → test step ≡ true
    → (place : ℕ) × (found : NumberedStep) × (position_from test start steps ≡ Some (start + place)) × (slice_get steps place ≡ Some found) × (test found ≡ true)
found_from test start [] step i passes = absurd (nothing_in step i)
found_from test start (first ∷ steps) step i passes =
    elim (cases_Bool (test first)) [
      | inl holds ↦
          let at : start ≡ start + zero = omega arith in
          (zero, first, cond-true (test first) (Some start) (position_from test (start + 1) steps) holds ∙ ap Some at, refl, holds)
      | inr fails ↦ elim (first_or_rest first steps step i) [
        | inl same ↦ absurd (both_ways (test first) fails (subst (λ (s : NumberedStep). test s ≡ true) (sym same) passes))
        | inr later ↦
            let rest = found_from test (start + 1) steps step later passes in
            let at : start + 1 + rest.0 ≡ start + suc rest.0 = omega arith in (
              suc rest.0,
              rest.1,
              cond-false (test first) (Some start) (position_from test (start + 1) steps) fails ∙ rest.2 ∙ ap Some at,
              rest.3,
              rest.4,
            )
      ]
    ]

-- the place of a step among those told before
place_found : (front : List NumberedStep) (prior : NumberedStep) → Contains front prior
    → (place : ℕ) × (found : NumberedStep) × (place_of front prior.number ≡ Some place) × (slice_get front place ≡ Some found) × (found.number ≡ prior.number)
place_found front prior i =
    let found = found_from (λ step. step.number == prior.number) 0 front prior i (eq-eqb prior.number prior.number refl) in
    let at : 0 + found.0 ≡ found.0 = omega arith in
    (found.0, found.1, position_from-zero (λ step. step.number == prior.number) front ∙ found.2 ∙ ap Some at, found.3, eqb-true found.1.number prior.number found.4)

-- a number of a step is none of a clause of the window
number_from : (first start : ℕ) (steps : List Step) (one : NumberedStep) → Contains (numbered_from first start steps) one → start ≤ one.number
number_from first start [] one i = absurd (nothing_in one i)
number_from first start (step ∷ steps) one i =
    elim (first_or_rest (record { first = first; number = start; step = step }) (numbered_from first (suc start) steps) one i) [
      | inl same ↦ let number : start ≡ one.number = ap (λ (s : NumberedStep). s.number) same in omega (arith, number)
      | inr later ↦ let rest = number_from first (suc start) steps one later in omega (arith, rest)
    ]

no_clause : (base : ℕ) (shared own : List Step) (one : NumberedStep) → Contains (all_steps base shared own) one → base ≤ one.number
no_clause base shared own one i =
    elim (Contains-append_cases (numbered base shared) (numbered (base + length shared) own) one i) [
      | inl early ↦ number_from base base shared one early
      | inr late ↦ let from = number_from (base + length shared) (base + length shared) own one late in omega (arith, from)
    ]

-- the ground of an earlier step that is told
step_grounded : ReasonsTellWhatTheyRestOn → FamiliesAreTold → (window : WindowForm) (names : List Symbol) (shared own : List Step) (front back : List NumberedStep) (one prior : NumberedStep)
    → told_of (length (base_of window).clauses) shared own ≡ front ++ one ∷ back → Contains (told_of (length (base_of window).clauses) shared own) prior → prior.number < one.number
    → (place : ℕ) × Contains (ground_of window names (place_of front) prior.number) (Earlier place)
    × (slice_get (map (λ (s : NumberedStep). s.number) (told_of (length (base_of window).clauses) shared own)) place ≡ Some prior.number)
step_grounded tell law window names shared own front back one prior is i less = (
  found.0,
  subst (λ (list : List Ground). Contains list (Earlier found.0)) (sym ground) (here (Earlier found.0) []),
  ap (λ (list : List NumberedStep). slice_get (map (λ (s : NumberedStep). s.number) list) found.0) is ∙ slice_get-map (λ (s : NumberedStep). s.number) (front ++ one ∷ back) found.0
      ∙ ap (option_map (λ (s : NumberedStep). s.number)) (got_front front (one ∷ back) found.0 found.1 found.3) ∙ ap Some found.4,
)
  where
    base : ℕ
    base = length (base_of window).clauses

    early : Contains front prior
    early = in_front front back one prior (subst (Pairwise Rises) is (tell.once base shared own)) (subst (λ (list : List NumberedStep). Contains list prior) is i) less

    found : (place : ℕ) × (found : NumberedStep) × (place_of front prior.number ≡ Some place) × (slice_get front place ≡ Some found) × (found.number ≡ prior.number)
    found = place_found front prior early

    without : family_at window prior.number ≡ None
    without =
        let over = no_clause base shared own prior (told_within tell base shared own prior i) in
        let size = numbered_size (first_names window) (clauses_of window) in
        law.none window prior.number (omega (arith, over, size))

    ground : ground_of window names (place_of front) prior.number ≡ Earlier found.0 ∷ []
    ground = ap (named_ground window names (place_of front) prior.number) without ∙ ap step_ground found.2

-- the grounds of a step that is told are those of its hints
pub grounded : ReasonsTellWhatTheyRestOn → FamiliesAreTold → (window : WindowForm) (property : PropertyForm) (ids : List EventId) (shared : List Step) (certificate : Certificate) (step : ReasonStep)
    → Contains (reason_of window property ids shared certificate).steps step
    → (told : NumberedStep)
    × IsGrounded window (query_names window property ids) (numbered_clauses window shared certificate.steps) (told_of (length (base_of window).clauses) shared certificate.steps) told step
grounded tell law window property ids shared certificate step i =
    let parts = split window names clauses [] all step i in
    (parts.1, subst (IsGrounded window names clauses all parts.1) parts.4 (made parts.0 parts.1 parts.2 parts.3))
  where
    names : List Symbol
    names = query_names window property ids

    clauses : List (List Lit)
    clauses = numbered_clauses window shared certificate.steps

    all : List NumberedStep
    all = told_of (length (base_of window).clauses) shared certificate.steps

    made : (front : List NumberedStep) (one : NumberedStep) (back : List NumberedStep) → all ≡ front ++ one ∷ back
        → IsGrounded window names clauses all one (step_of window names clauses (place_of front) one.number one.step)
    made front one back is = record {
      among = subst (λ (list : List NumberedStep). Contains list one) (sym is) (contains_middle one front back);
      number = refl;
      everything = λ none. ap (grounds_of window names (place_of front) (forces_nothing clauses one.number one.step)) none;
      alone = λ hint among nothing.
          ap (λ (b : Bool). grounds_of window names (place_of front) b one.step.hints) nothing ∙ alone window names (place_of front) hint one.step.hints among;
      cited = λ hint clause among something got.
          let ground = window_ground law window names (place_of front) hint clause got in (
            ground.0,
            subst (λ (b : Bool). Contains (grounds_of window names (place_of front) b one.step.hints) (Base ground.0 (facts_of window names clause))) (sym something)
                (of_hints window names (place_of front) hint one.step.hints (Base ground.0 (facts_of window names clause)) among ground.1),
          );
      earlier = λ prior told less among something.
          let ground = step_grounded tell law window names shared certificate.steps front back one prior is told less in (
            ground.0,
            subst (λ (b : Bool). Contains (grounds_of window names (place_of front) b one.step.hints) (Earlier ground.0)) (sym something)
                (of_hints window names (place_of front) prior.number one.step.hints (Earlier ground.0) among ground.1),
            ground.2,
          );
    }
