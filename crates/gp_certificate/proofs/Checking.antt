-- What a certificate that checks shows.
use Rattle.std.proofs.Common.{◌≡◌, ℕ, ℤ, Bool, not, List, [], ◌∷◌, ◌++◌, All, Contains, sym, ◌∙◌, subst}
use Rattle.std.proofs.lemmas.List.{append-nil}
use Rattle.std.proofs.lemmas.List.Elements.{All-append, All-nil, All-cons, All-push, All-contains}
use Rattle.gp_clause.specs.declared.edge.Edge.{Edge}
use Rattle.gp_clause.specs.declared.kind.Kind.{Kind}
use Rattle.gp_clause.specs.declared.lit.Lit.{Lit}
use Rattle.gp_clause.specs.declared.problem.Problem.{Problem}
use Rattle.gp_clause.specs.declared.problem.Query.{Query}
use Rattle.gp_clause.specs.Clause.{HoldsClause, HoldsAll}
use Rattle.gp_clause.specs.Follows.{Follows, LocalsChangeNothing}
use Rattle.gp_clause.specs.LitLaws.{not_both}
use Rattle.gp_clause.specs.Lit.{HoldsLit, opposite}
use Rattle.gp_clause.specs.Problem.{IsValidKind, IsValidProblem, IsValidQuery}
use Rattle.gp_clause.specs.Valuation.{truth_of, place_of}
use Rattle.gp_certificate.specs.declared.step.Step.{Step}
use Rattle.gp_certificate.specs.declared.certificate.Certificate.{Certificate}
use Rattle.gp_certificate.specs.Certificate.{usable, StepsPass, StepsCheck, Checks, Proves, Refutes, CertificateFollows, RefutedMeans}
use Rattle.gp_certificate.specs.CheckingLaws.{last_contained}
use Rattle.gp_certificate.specs.NamedLaws.{usable_all}
use Rattle.gp_certificate.proofs.Passing.{Laws, IsModel, model_from_valuation, passing_true}

-- the clauses of steps that pass are true where all clauses that they may use are
pub pass_true : Laws → (edges : List Edge) (kinds : List Kind) (truth : ℕ → Bool) (place : ℕ → ℤ) → IsModel edges kinds truth place → (numbered unnamed : List (List Lit) → List (List Lit))
    → ((clauses : List (List Lit)) → HoldsAll truth clauses → HoldsAll truth (numbered clauses)) → ((clauses : List (List Lit)) → HoldsAll truth clauses → HoldsAll truth (unnamed clauses))
    → (earlier : List (List Lit)) (steps : List Step) → HoldsAll truth earlier → StepsPass edges kinds numbered unnamed earlier steps → All (λ (step : Step). HoldsClause truth step.clause) steps
pass_true laws edges kinds truth place model numbered unnamed told free earlier [] holds passes = All-nil (λ (step : Step). HoldsClause truth step.clause)
pass_true laws edges kinds truth place model numbered unnamed told free earlier (step ∷ steps) holds passes =
    let used : HoldsAll truth (usable (numbered earlier) (unnamed earlier) step.hints) = usable_all (HoldsClause truth) (numbered earlier) (unnamed earlier) step.hints (told earlier holds) (free earlier holds) in
    let first : HoldsClause truth step.clause = passing_true laws edges kinds (usable (numbered earlier) (unnamed earlier) step.hints) step.clause truth place model used passes.0.passes in
    All-cons (λ (step : Step). HoldsClause truth step.clause) step steps first
    (pass_true laws edges kinds truth place model numbered unnamed told free (earlier ++ step.clause ∷ []) steps (All-push (HoldsClause truth) earlier step.clause holds first) passes.1)

-- so the clauses of steps that check are true where the clauses before them are
pub steps_true : Laws → (edges : List Edge) (kinds : List Kind) (truth : ℕ → Bool) (place : ℕ → ℤ) → IsModel edges kinds truth place
    → (earlier : List (List Lit)) (steps : List Step) → HoldsAll truth earlier → StepsCheck edges kinds earlier steps → All (λ (step : Step). HoldsClause truth step.clause) steps
steps_true laws edges kinds truth place model earlier steps holds checks =
    pass_true laws edges kinds truth place model (λ cs. cs) (λ cs. cs) (λ clauses all. all) (λ clauses all. all) earlier steps holds checks

-- the clause that a certificate proves is true where the problem's clauses are
proved_true : Laws → (problem : Problem) (certificate : Certificate) (clause : List Lit) (truth : ℕ → Bool) (place : ℕ → ℤ) → IsModel problem.edges problem.kinds truth place
    → HoldsAll truth problem.clauses → Proves problem certificate clause → HoldsClause truth clause
proved_true laws problem certificate clause truth place model holds proves =
    let P : List Kind → Type 0 = λ kinds. IsModel problem.edges kinds truth place in
    let wide : IsModel problem.edges (problem.kinds ++ []) truth place = subst P (sym (append-nil problem.kinds)) model in
    let each : All (λ (step : Step). HoldsClause truth step.clause) certificate.steps = steps_true laws problem.edges (problem.kinds ++ []) truth place wide problem.clauses certificate.steps holds proves.checks in
    let last : HoldsClause truth (proves.ends.0).clause = All-contains (λ (step : Step). HoldsClause truth step.clause) certificate.steps (proves.ends.0) each (last_contained certificate.steps (proves.ends.0) (proves.ends.1)) in
    subst (HoldsClause truth) (proves.ends.2) last

each_follows : Laws → (problem : Problem) (query : Query) (certificate : Certificate) → IsValidProblem problem → IsValidQuery problem query → Checks problem query certificate
    → All (λ (step : Step). Follows problem.points problem.edges (problem.kinds ++ query.locals) problem.clauses step.clause) certificate.steps
each_follows laws problem query certificate valid asked checks = λ k d within. λ truth place valuation holds.
    let kinds_valid : All (IsValidKind problem.points) (problem.kinds ++ query.locals) = All-append (IsValidKind problem.points) problem.kinds query.locals valid.kinds asked.locals in
    let model : IsModel problem.edges (problem.kinds ++ query.locals) truth place = model_from_valuation laws problem.points problem.edges (problem.kinds ++ query.locals) truth place kinds_valid valuation in
    steps_true laws problem.edges (problem.kinds ++ query.locals) truth place model problem.clauses certificate.steps holds checks k d within

pub certificates : Laws → LocalsChangeNothing → CertificateFollows
certificates laws locals = record {
  each = each_follows laws;
  without_locals = λ problem query certificate valid asked checks. λ k d within. λ names.
      locals.left_out problem.points problem.edges problem.kinds query.locals problem.clauses _ valid.clauses names (each_follows laws problem query certificate valid asked checks k d within);
  proved = λ problem certificate clause valid proves. λ truth place valuation holds.
      proved_true laws problem certificate clause truth place (model_from_valuation laws problem.points problem.edges problem.kinds truth place valid.kinds valuation) holds proves;
}

-- a clause of negations of what is true is false
pub negations_false : (truth : ℕ → Bool) (assumed clause : List Lit) → All (HoldsLit truth) assumed → All (λ lit. Contains assumed (opposite lit)) clause → HoldsClause truth clause → ⊥
negations_false truth assumed clause holds negated (k, lit, within, is, told) =
    let P : Lit → Type 0 = λ l. Contains assumed (opposite l) in
    let against : truth lit.variable ≡ not lit.positive = All-contains (HoldsLit truth) assumed (opposite lit) holds (subst P is (negated k lit within)) in
    not_both lit.positive (sym told ∙ against)

-- nothing at which edges and bounds are kept makes clauses and assumptions true that are refuted
refuted : Laws → (problem : Problem) (query : Query) (certificate : Certificate) (truth : ℕ → Bool) (place : ℕ → ℤ) → Refutes problem query certificate
    → IsModel problem.edges (problem.kinds ++ query.locals) truth place → HoldsAll truth problem.clauses → All (HoldsLit truth) query.assumed → ⊥
refuted laws problem query certificate truth place refutes model holds assumed =
    let each : All (λ (step : Step). HoldsClause truth step.clause) certificate.steps = steps_true laws problem.edges (problem.kinds ++ query.locals) truth place model problem.clauses certificate.steps holds refutes.checks in
    let last : HoldsClause truth (refutes.ends.0).clause = All-contains (λ (step : Step). HoldsClause truth step.clause) certificate.steps (refutes.ends.0) each (last_contained certificate.steps (refutes.ends.0) (refutes.ends.1)) in
    negations_false truth query.assumed (refutes.ends.0).clause assumed (refutes.ends.2) last

pub refuting : Laws → RefutedMeans
refuting laws = record {
  no_valuation = λ problem query certificate valid asked refutes truth place valuation holds assumed.
      let kinds_valid : All (IsValidKind problem.points) (problem.kinds ++ query.locals) = All-append (IsValidKind problem.points) problem.kinds query.locals valid.kinds asked.locals in
      refuted laws problem query certificate truth place refutes (model_from_valuation laws problem.points problem.edges (problem.kinds ++ query.locals) truth place kinds_valid valuation) holds assumed;
  no_answer = λ problem query certificate refutes valuation meets.
      refuted laws problem query certificate (truth_of valuation) (place_of valuation) refutes (record { keeps = meets.edges; bounds = meets.bounds }) meets.clauses meets.assumed;
}
