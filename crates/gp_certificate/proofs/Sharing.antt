-- What certificates over a shared list show.
use Rattle.std.proofs.Common.{◌≡◌, ℕ, ℤ, Bool, List, [], ◌∷◌, ◌++◌, All, ◌↔◌, sym, ap, subst}
use Rattle.std.proofs.lemmas.List.{append-nil, append_assoc}
use Rattle.std.proofs.lemmas.List.Elements.{All-append, All-nil, All-map, All-contains}
use Rattle.gp_clause.specs.declared.edge.Edge.{Edge}
use Rattle.gp_clause.specs.declared.kind.Kind.{Kind}
use Rattle.gp_clause.specs.declared.lit.Lit.{Lit}
use Rattle.gp_clause.specs.declared.problem.Problem.{Problem}
use Rattle.gp_clause.specs.declared.problem.Query.{Query}
use Rattle.gp_clause.specs.Clause.{HoldsClause, HoldsAll}
use Rattle.gp_clause.specs.Lit.{HoldsLit}
use Rattle.gp_clause.specs.Problem.{IsValidKind}
use Rattle.gp_clause.specs.Valuation.{truth_of, place_of}
use Rattle.gp_certificate.specs.declared.step.Step.{Step}
use Rattle.gp_certificate.specs.declared.certificate.Certificate.{Certificate}
use Rattle.gp_certificate.specs.Certificate.{clauses_of, StepPasses, StepChecks, StepsCheck}
use Rattle.gp_base.specs.ListLaws.{got_front}
use Rattle.gp_certificate.specs.CheckingLaws.{last_contained}
use Rattle.gp_certificate.specs.Shared.{OwnStepsPass, ChecksOver, RefutesOver, SharesNothing, SharedFollows, RefutedOverMeans}
use Rattle.gp_certificate.proofs.Checking.{pass_true, steps_true, negations_false}
use Rattle.gp_certificate.proofs.Passing.{Laws, IsModel, model_from_valuation}

-- a step passes without shared clauses as it does after the clauses before it
passes_alone : (edges : List Edge) (kinds : List Kind) (base own : List (List Lit)) (step : Step)
    → StepPasses edges kinds (base ++ [] ++ own) (base ++ own) step ↔ StepChecks edges kinds (base ++ own) step
passes_alone edges kinds base own step = (λ h. subst P alone h, λ h. subst P (sym alone) h)
  where
    P : List (List Lit) → Type 0
    P numbered = StepPasses edges kinds numbered (base ++ own) step

    alone : base ++ [] ++ own ≡ base ++ own
    alone = ap (λ cs. cs ++ own) (append-nil base)

own_alone : (edges : List Edge) (kinds : List Kind) (base own : List (List Lit)) (steps : List Step) → OwnStepsPass edges kinds base [] own steps ↔ StepsCheck edges kinds (base ++ own) steps
own_alone edges kinds base own [] = (λ h. tt, λ h. tt)
own_alone edges kinds base own (step ∷ steps) =
    let first = passes_alone edges kinds base own step in
    let rest = own_alone edges kinds base (own ++ step.clause ∷ []) steps in
    let same : base ++ own ++ step.clause ∷ [] ≡ base ++ (own ++ step.clause ∷ []) = append_assoc base own (step.clause ∷ []) in
    let P : List (List Lit) → Type 0 = λ cs. StepsCheck edges kinds cs steps in (
      λ h. (first.0 h.0, subst P (sym same) (rest.0 h.1)),
      λ h. (first.1 h.0, rest.1 (subst P same h.1)),
    )

pub checks_alone : (edges : List Edge) (kinds : List Kind) (base : List (List Lit)) (steps : List Step) → OwnStepsPass edges kinds base [] [] steps ↔ StepsCheck edges kinds base steps
checks_alone edges kinds base steps =
    let alone = own_alone edges kinds base [] steps in
    let P : List (List Lit) → Type 0 = λ cs. StepsCheck edges kinds cs steps in
    (λ h. subst P (append-nil base) (alone.0 h), λ h. alone.1 (subst P (sym (append-nil base)) h))

over_nothing : (problem : Problem) (query : Query) (steps : List Step)
    → OwnStepsPass problem.edges (problem.kinds ++ query.locals) problem.clauses [] [] steps ↔ StepsCheck problem.edges (problem.kinds ++ query.locals) problem.clauses steps
over_nothing problem query steps = checks_alone problem.edges (problem.kinds ++ query.locals) problem.clauses steps

pub sharing_nothing : SharesNothing
sharing_nothing = record {
  checks = λ problem query certificate. (
    λ h. (over_nothing problem query certificate.steps).0 h.own,
    λ h. record { shares = tt; own = (over_nothing problem query certificate.steps).1 h },
  );
  refutes = λ problem query certificate. (
    λ h. record { checks = (over_nothing problem query certificate.steps).0 h.checks.own; ends = h.ends },
    λ h. record { checks = record { shares = tt; own = (over_nothing problem query certificate.steps).1 h.checks }; ends = h.ends },
  );
}

-- a model of more variables is one of the first
model_of_first : (edges : List Edge) (kinds locals : List Kind) (truth : ℕ → Bool) (place : ℕ → ℤ) → IsModel edges (kinds ++ locals) truth place → IsModel edges kinds truth place
model_of_first edges kinds locals truth place model = record { keeps = model.keeps; bounds = λ variable kind is. model.bounds variable kind (got_front kinds locals variable kind is) }

over_true : Laws → (problem : Problem) (shared : List Step) (query : Query) (certificate : Certificate) (truth : ℕ → Bool) (place : ℕ → ℤ) → IsModel problem.edges (problem.kinds ++ query.locals) truth place
    → HoldsAll truth problem.clauses → ChecksOver problem shared query certificate → All (λ (step : Step). HoldsClause truth step.clause) certificate.steps
over_true laws problem shared query certificate truth place model holds checks =
    let first : IsModel problem.edges problem.kinds truth place = model_of_first problem.edges problem.kinds query.locals truth place model in
    let shares : HoldsAll truth (clauses_of shared) =
    All-map (HoldsClause truth) (λ (step : Step). step.clause) shared (steps_true laws problem.edges problem.kinds truth place first problem.clauses shared holds checks.shares) in
    pass_true laws problem.edges (problem.kinds ++ query.locals) truth place model (λ clauses. problem.clauses ++ clauses_of shared ++ clauses) (λ clauses. problem.clauses ++ clauses)
    (λ clauses owns. All-append (HoldsClause truth) (problem.clauses ++ clauses_of shared) clauses (All-append (HoldsClause truth) problem.clauses (clauses_of shared) holds shares) owns)
    (λ clauses owns. All-append (HoldsClause truth) problem.clauses clauses holds owns) [] certificate.steps (All-nil (HoldsClause truth)) checks.own

pub sharing_follows : Laws → SharedFollows
sharing_follows laws = record {
  shared = λ problem steps valid passes. λ k d within. λ truth place valuation holds.
      steps_true laws problem.edges problem.kinds truth place (model_from_valuation laws problem.points problem.edges problem.kinds truth place valid.kinds valuation) problem.clauses steps holds passes k d within;
  own = λ problem steps query certificate valid asked checks. λ k d within. λ truth place valuation holds.
      let kinds_valid : All (IsValidKind problem.points) (problem.kinds ++ query.locals) = All-append (IsValidKind problem.points) problem.kinds query.locals valid.kinds asked.locals in
      over_true laws problem steps query certificate truth place (model_from_valuation laws problem.points problem.edges (problem.kinds ++ query.locals) truth place kinds_valid valuation) holds checks k d within;
}

refuted_over : Laws → (problem : Problem) (shared : List Step) (query : Query) (certificate : Certificate) (truth : ℕ → Bool) (place : ℕ → ℤ) → RefutesOver problem shared query certificate
    → IsModel problem.edges (problem.kinds ++ query.locals) truth place → HoldsAll truth problem.clauses → All (HoldsLit truth) query.assumed → ⊥
refuted_over laws problem shared query certificate truth place refutes model holds assumed =
    let each : All (λ (step : Step). HoldsClause truth step.clause) certificate.steps = over_true laws problem shared query certificate truth place model holds refutes.checks in
    let last : HoldsClause truth (refutes.ends.0).clause = All-contains (λ (step : Step). HoldsClause truth step.clause) certificate.steps (refutes.ends.0) each (last_contained certificate.steps (refutes.ends.0) (refutes.ends.1)) in
    negations_false truth query.assumed (refutes.ends.0).clause assumed (refutes.ends.2) last

pub refuting_over : Laws → RefutedOverMeans
refuting_over laws = record {
  no_valuation = λ problem shared query certificate valid asked refutes truth place valuation holds assumed.
      let kinds_valid : All (IsValidKind problem.points) (problem.kinds ++ query.locals) = All-append (IsValidKind problem.points) problem.kinds query.locals valid.kinds asked.locals in
      refuted_over laws problem shared query certificate truth place refutes (model_from_valuation laws problem.points problem.edges (problem.kinds ++ query.locals) truth place kinds_valid valuation) holds assumed;
  no_answer = λ problem shared query certificate refutes valuation meets.
      refuted_over laws problem shared query certificate (truth_of valuation) (place_of valuation) refutes (record { keeps = meets.edges; bounds = meets.bounds }) meets.clauses meets.assumed;
}
