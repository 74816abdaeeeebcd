-- A step that cites clauses by number passes with just these.
use Rattle.std.proofs.Common.{ℕ, zero, suc, ◌≡◌, ◌+◌, ◌<◌, ◌≤◌, ap, sym, ◌∙◌, subst, inl, inr, arith, true, List, [], ◌∷◌, ◌++◌, Contains, length}
use Rattle.std.specs.Prelude.{◌==◌, if◌then◌else◌, Some, reverse, slice_get}
use Rattle.std.specs.List.{list_any}
use Rattle.std.proofs.lemmas.Bool.{eqb-true, lt-ltb, or_cases}
use Rattle.std.proofs.lemmas.List.{length-map}
use Rattle.std.proofs.lemmas.List.Elements.{Contains-append_cases}
use Rattle.std.proofs.lemmas.List.Sorted.{Contains-permutation, IsPermutation-reverse}
use Rattle.std.proofs.lemmas.Option.{slice_get_within}
use Rattle.gp_base.specs.ListLaws.{contains_flat_map, first_or_rest, got_front, here, nothing_in, slice_get_back, there}
use Rattle.gp_certificate.specs.declared.certificate.Certificate.{Certificate}
use Rattle.gp_certificate.specs.declared.step.Step.{Step}
use Rattle.gp_certificate.specs.Certificate.{clauses_of}
use Rattle.gp_certificate.specs.Shared.{ChecksOver}
use Rattle.gp_certificate.specs.Step.{MorePasses, Passes}
use Rattle.gp_clause.specs.declared.lit.Lit.{Lit}
use Rattle.gp_clause.specs.declared.problem.Problem.{Problem}
use Rattle.gp_clause.specs.declared.problem.Query.{Query}
use Rattle.gp_clause.specs.Problem.{IsValidProblem}
use Rattle.gp_reason.specs.Cycles.{clause_before, clause_list, hinted}
use Rattle.gp_reason.specs.Told.{all_steps, hints_cite, numbered, numbered_from, NumberedStep, told_of}
use Rattle.gp_reason.proofs.Enough.{all_enough, HasBase, HasCited}
use Rattle.gp_reason.proofs.Resting.{told_within}

-- a clause that a hint numbers, before that of the step
in_hinted : (clauses : List (List Lit)) (number : ℕ) (hints : List ℕ) (hint : ℕ) (clause : List Lit) → Contains hints hint → hint < number → slice_get clauses hint ≡ Some clause
    → Contains (hinted clauses number hints) clause
in_hinted clauses number hints hint clause i before got =
    contains_flat_map (clause_before clauses number) (reverse hints) hint clause (Contains-permutation hints (reverse hints) hint (IsPermutation-reverse hints) i) one
  where
    is : clause_before clauses number hint ≡ clause ∷ []
    is = ap (λ b. if b then clause_list (slice_get clauses hint) else []) (lt-ltb hint number before) ∙ ap clause_list got

    one : Contains (clause_before clauses number hint) clause
    one = subst (λ (list : List (List Lit)). Contains list clause) (sym is) (here clause [])

-- a number that hints cite is one of them
cited_in : (number : ℕ) (hints : List ℕ) → list_any (λ other. other == number) hints ≡ true → Contains hints number
cited_in number [] is = cc
cited_in number (hint ∷ hints) is =
    elim (or_cases (hint == number) (list_any (λ other. other == number) hints) is) [
      | inl same ↦ subst (Contains (hint ∷ hints)) (eqb-true hint number same) (here hint hints)
      | inr later ↦ there hint hints number (cited_in number hints later)
    ]

-- where there are hints, each number that they cite is one of them
cites_in : (first number hint : ℕ) (hints : List ℕ) → Contains hints hint → hints_cite first number hints ≡ true → Contains hints number
cites_in first number hint [] i is = absurd (nothing_in hint i)
cites_in first number hint (head ∷ hints) i is = cited_in number (head ∷ hints) is

-- the number of a step tells its place in its list
numbered_place : (first start : ℕ) (steps : List Step) (step : NumberedStep) → Contains (numbered_from first start steps) step
    → (place : ℕ) × (step.number ≡ start + place) × (slice_get (clauses_of steps) place ≡ Some step.step.clause)
numbered_place first start [] step i = absurd (nothing_in step i)
numbered_place first start (head ∷ steps) step i =
    elim (first_or_rest (record { first = first; number = start; step = head }) (numbered_from first (suc start) steps) step i) [
      | inl same ↦
          let at : start ≡ step.number = ap (λ (s : NumberedStep). s.number) same in
          (zero, omega (arith, at), ap (λ (s : NumberedStep). Some s.step.clause) same)
      | inr later ↦
          let rest = numbered_place first (suc start) steps step later in
          let at : step.number ≡ suc start + rest.0 = rest.1 in
          (suc rest.0, omega (arith, at), rest.2)
    ]

-- a step has the clause of its number, behind those of a problem
step_clause : (base : List (List Lit)) (shared own : List Step) (step : NumberedStep) → Contains (all_steps (length base) shared own) step
    → (length base ≤ step.number) × (slice_get (base ++ (clauses_of shared ++ clauses_of own)) step.number ≡ Some step.step.clause)
step_clause base shared own step i =
    elim (Contains-append_cases (numbered (length base) shared) (numbered (length base + length shared) own) step i) [
      | inl early ↦
          let at = numbered_place (length base) (length base) shared step early in
          let is : step.number ≡ length base + at.0 = at.1 in (
            omega (arith, is),
            ap (slice_get (base ++ (clauses_of shared ++ clauses_of own))) is ∙ slice_get_back base (clauses_of shared ++ clauses_of own) at.0
                ∙ got_front (clauses_of shared) (clauses_of own) at.0 step.step.clause at.2,
          )
      | inr late ↦
          let at = numbered_place (length base + length shared) (length base + length shared) own step late in
          let as_many = length-map shared (λ (s : Step). s.clause) in
          let number : step.number ≡ length base + length shared + at.0 = at.1 in
          let is : step.number ≡ length base + (length (clauses_of shared) + at.0) = omega (arith, number, as_many) in (
            omega (arith, is),
            ap (slice_get (base ++ (clauses_of shared ++ clauses_of own))) is ∙ slice_get_back base (clauses_of shared ++ clauses_of own) (length (clauses_of shared) + at.0)
                ∙ slice_get_back (clauses_of shared) (clauses_of own) at.0 ∙ at.2,
          )
    ]

pub cited_enough : MorePasses → (problem : Problem) (shared : List Step) (query : Query) (certificate : Certificate) → IsValidProblem problem → ChecksOver problem shared query certificate
    → (told : NumberedStep) (hint : ℕ) → Contains (told_of (length problem.clauses) shared certificate.steps) told → Contains told.step.hints hint
    → Passes problem.edges (problem.kinds ++ query.locals) (hinted (problem.clauses ++ (clauses_of shared ++ clauses_of certificate.steps)) told.number told.step.hints) told.step.clause
cited_enough more_pass problem shared query certificate valid checks told hint is_told some =
    all_enough more_pass problem shared query certificate valid checks told among (hinted clauses told.number told.step.hints) of_base of_steps
  where
    clauses : List (List Lit)
    clauses = problem.clauses ++ (clauses_of shared ++ clauses_of certificate.steps)

    steps : List NumberedStep
    steps = all_steps (length problem.clauses) shared certificate.steps

    among : Contains steps told
    among = told_within (length problem.clauses) shared certificate.steps told is_told

    of_base : HasBase problem.clauses (hinted clauses told.number told.step.hints) told
    of_base number clause got (inl i) =
        let within : number < length problem.clauses = slice_get_within problem.clauses number clause got in
        let behind = (step_clause problem.clauses shared certificate.steps told among).0 in
        in_hinted clauses told.number told.step.hints number clause i (omega (arith, within, behind)) (got_front problem.clauses (clauses_of shared ++ clauses_of certificate.steps) number clause got)
    of_base number clause got (inr none) = absurd (nothing_in hint (subst (λ (hints : List ℕ). Contains hints hint) none some))

    of_steps : HasCited steps (hinted clauses told.number told.step.hints) told
    of_steps earlier i before cite =
        in_hinted clauses told.number told.step.hints earlier.number earlier.step.clause (cites_in told.first earlier.number hint told.step.hints some cite) before
        (step_clause problem.clauses shared certificate.steps earlier i).1
