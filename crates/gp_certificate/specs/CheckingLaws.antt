-- Laws: steps that pass one after the other.
use Rattle.std.proofs.Common.{List, [], ◌∷◌, ◌++◌, length, All, Contains, sym, subst, append_assoc}
use Rattle.std.proofs.lemmas.List.{append-nil}
use Rattle.std.proofs.lemmas.List.Elements.{All-nil, All-cons, All-head, All-tail, All-push, All-contains, Contains-push}
use Rattle.gp_clause.specs.declared.edge.Edge.{Edge}
use Rattle.gp_clause.specs.declared.kind.Kind.{Kind}
use Rattle.gp_clause.specs.declared.lit.Lit.{Lit}
use Rattle.gp_clause.specs.declared.problem.Problem.{Problem}
use Rattle.gp_clause.specs.Clause.{NamesBelow}
use Rattle.gp_certificate.specs.declared.step.Step.{Step}
use Rattle.gp_certificate.specs.declared.certificate.Certificate.{Certificate}
use Rattle.gp_certificate.specs.Certificate.{clauses_of, usable, StepsPass, StepsCheck, IsLast, Proves}
use Rattle.gp_base.specs.ListLaws.{contains_map}
use Rattle.gp_certificate.specs.NamedLaws.{usable_all}
use Rattle.gp_certificate.specs.PassingLaws.{passes_bare}

-- the clauses of steps that pass name variables that there are
pub steps_within : (edges : List Edge) (kinds : List Kind) (numbered unnamed : List (List Lit) → List (List Lit)) (earlier : List (List Lit)) (steps : List Step)
    → StepsPass edges kinds numbered unnamed earlier steps → All (NamesBelow (length kinds)) (clauses_of steps)
steps_within edges kinds numbered unnamed earlier [] passes = All-nil (NamesBelow (length kinds))
steps_within edges kinds numbered unnamed earlier (step ∷ steps) passes =
    All-cons (NamesBelow (length kinds)) step.clause (clauses_of steps) passes.0.passes.in_range (steps_within edges kinds numbered unnamed (earlier ++ step.clause ∷ []) steps passes.1)

-- steps check one after the other
pub check_append : (edges : List Edge) (kinds : List Kind) (earlier : List (List Lit)) (steps more : List Step) → StepsCheck edges kinds earlier steps → StepsCheck edges kinds (earlier ++ clauses_of steps) more
    → StepsCheck edges kinds earlier (steps ++ more)
check_append edges kinds earlier [] more first second =
    let P : List (List Lit) → Type 0 = λ xs. StepsCheck edges kinds xs more in
    subst P (append-nil earlier) second
check_append edges kinds earlier (step ∷ steps) more first second =
    let P : List (List Lit) → Type 0 = λ xs. StepsCheck edges kinds xs more in
    (first.0, check_append edges kinds (earlier ++ step.clause ∷ []) steps more first.1 (subst P (sym (append_assoc earlier (step.clause ∷ []) (clauses_of steps))) second))

-- steps that check without locals check with them, after clauses of problem variables
pub check_wide : (problem : Problem) (locals : List Kind) (earlier : List (List Lit)) (steps : List Step) → All (NamesBelow (length problem.kinds)) earlier
    → StepsCheck problem.edges (problem.kinds ++ []) earlier steps → StepsCheck problem.edges (problem.kinds ++ locals) earlier steps
check_wide problem locals earlier [] below checks = tt
check_wide problem locals earlier (step ∷ steps) below checks =
    let P : List Kind → Type 0 = λ kinds. NamesBelow (length kinds) step.clause in
    let names : NamesBelow (length problem.kinds) step.clause = subst P (append-nil problem.kinds) checks.0.passes.in_range in
    let used : All (NamesBelow (length problem.kinds)) (usable earlier earlier step.hints) = usable_all (NamesBelow (length problem.kinds)) earlier earlier step.hints below below in (
      record { hints = checks.0.hints; passes = passes_bare problem [] locals (usable earlier earlier step.hints) step.clause used names checks.0.passes },
      check_wide problem locals (earlier ++ step.clause ∷ []) steps (All-push (NamesBelow (length problem.kinds)) earlier step.clause below names) checks.1,
    )

-- steps that have problem variables only check whatever the other variables are
pub check_bare : (problem : Problem) (own other : List Kind) (earlier : List (List Lit)) (steps : List Step) → All (NamesBelow (length problem.kinds)) earlier → All (NamesBelow (length problem.kinds)) (clauses_of steps)
    → StepsCheck problem.edges (problem.kinds ++ own) earlier steps → StepsCheck problem.edges (problem.kinds ++ other) earlier steps
check_bare problem own other earlier [] below named checks = tt
check_bare problem own other earlier (step ∷ steps) below named checks =
    let names : NamesBelow (length problem.kinds) step.clause = All-head (NamesBelow (length problem.kinds)) step.clause (clauses_of steps) named in
    let used : All (NamesBelow (length problem.kinds)) (usable earlier earlier step.hints) = usable_all (NamesBelow (length problem.kinds)) earlier earlier step.hints below below in (
      record { hints = checks.0.hints; passes = passes_bare problem own other (usable earlier earlier step.hints) step.clause used names checks.0.passes },
      check_bare problem own other (earlier ++ step.clause ∷ []) steps (All-push (NamesBelow (length problem.kinds)) earlier step.clause below names) (All-tail (NamesBelow (length problem.kinds)) step.clause (clauses_of steps) named) checks.1,
    )

-- the last step is one of the steps
pub last_contained : (steps : List Step) (step : Step) → IsLast steps step → Contains steps step
last_contained steps step (front, is) = let P : List Step → Type 0 = λ xs. Contains xs step in subst P (sym is) (Contains-push front step)

-- a clause that a certificate proves has problem variables only
pub proved_below : (problem : Problem) (certificate : Certificate) (clause : List Lit) → Proves problem certificate clause → NamesBelow (length problem.kinds) clause
proved_below problem certificate clause proves =
    let each : All (NamesBelow (length (problem.kinds ++ []))) (clauses_of certificate.steps) = steps_within problem.edges (problem.kinds ++ []) (λ cs. cs) (λ cs. cs) problem.clauses certificate.steps proves.checks in
    let among : Contains (clauses_of certificate.steps) (proves.ends.0).clause = contains_map (λ (step : Step). step.clause) certificate.steps (proves.ends.0) (last_contained certificate.steps (proves.ends.0) (proves.ends.1)) in
    let last : NamesBelow (length (problem.kinds ++ [])) (proves.ends.0).clause = All-contains (NamesBelow (length (problem.kinds ++ []))) (clauses_of certificate.steps) (proves.ends.0).clause each among in
    let P : List Kind → Type 0 = λ kinds. NamesBelow (length kinds) (proves.ends.0).clause in
    subst (NamesBelow (length problem.kinds)) (proves.ends.2) (subst P (append-nil problem.kinds) last)
