use Rattle.std.specs.Prelude.{ℕ, ◌≡◌, ◌<◌, Bool, ℤ, List, [], ◌∷◌, ◌++◌, length, map, All, Contains}
use Rattle.gp_clause.specs.declared.edge.Edge.{Edge}
use Rattle.gp_clause.specs.declared.kind.Kind.{Kind}
use Rattle.gp_clause.specs.declared.lit.Lit.{Lit}
use Rattle.gp_clause.specs.declared.problem.Problem.{Problem}
use Rattle.gp_clause.specs.declared.problem.Query.{Query}
use Rattle.gp_clause.specs.declared.valuation.Valuation.{Valuation}
use Rattle.gp_clause.specs.Clause.{HoldsAll, NamesBelow}
use Rattle.gp_clause.specs.Follows.{Follows}
use Rattle.gp_clause.specs.Lit.{HoldsLit, opposite}
use Rattle.gp_clause.specs.Problem.{IsValidProblem, IsValidQuery}
use Rattle.gp_clause.specs.Valuation.{IsValuation, Meets}
use Rattle.gp_certificate.specs.declared.step.Step.{Step}
use Rattle.gp_certificate.specs.declared.certificate.Certificate.{Certificate}
use Rattle.gp_certificate.specs.Step.{Passes, named}

-- the clauses of steps
abbrev pub clauses_of : List Step → List (List Lit)
clauses_of steps = map (λ (step : Step). step.clause) steps

-- the clauses that a step may use: those that its hints number, or where it has none those that need no number
abbrev pub usable : List (List Lit) → List (List Lit) → List ℕ → List (List Lit)
usable numbered unnamed [] = unnamed
usable numbered unnamed (hint ∷ hints) = named numbered (hint ∷ hints)

-- a step passes where its hints number clauses, and its own clause passes with what it may use
pub record StepPasses (edges : List Edge) (kinds : List Kind) (numbered unnamed : List (List Lit)) (step : Step) : Type 0 where
  pub hints : All (λ hint. hint < length numbered) step.hints
  pub passes : Passes edges kinds (usable numbered unnamed step.hints) step.clause

-- each of some steps passes, where the clauses so far tell which are numbered and which need no number; the clause of a step
-- is one of those so far for the steps after it
abbrev pub StepsPass : List Edge → List Kind → (List (List Lit) → List (List Lit)) → (List (List Lit) → List (List Lit)) → List (List Lit) → List Step → Type 0
StepsPass edges kinds numbered unnamed earlier [] = Unit {0}
StepsPass edges kinds numbered unnamed earlier (step ∷ steps) = StepPasses edges kinds (numbered earlier) (unnamed earlier) step × StepsPass edges kinds numbered unnamed (earlier ++ step.clause ∷ []) steps

-- a step checks after some clauses where it passes, and may name each of them, and use all where it has no hints
abbrev pub StepChecks : List Edge → List Kind → List (List Lit) → Step → Type 0
StepChecks edges kinds earlier step = StepPasses edges kinds earlier earlier step

-- each of the steps checks after some clauses and the clauses of the steps before it
abbrev pub StepsCheck : List Edge → List Kind → List (List Lit) → List Step → Type 0
StepsCheck edges kinds earlier steps = StepsPass edges kinds (λ clauses. clauses) (λ clauses. clauses) earlier steps

-- a certificate checks for a problem and a query where each of its steps checks after the problem's clauses
abbrev pub Checks : Problem → Query → Certificate → Type 0
Checks problem query certificate = StepsCheck problem.edges (problem.kinds ++ query.locals) problem.clauses certificate.steps

-- the query without locals that assumes nothing
abbrev pub empty_query : Query
empty_query = record { locals = []; assumed = [] }

-- a step is the last of some steps
abbrev pub IsLast : List Step → Step → Type 0
IsLast steps step = (front : List Step) × (steps ≡ front ++ step ∷ [])

-- a certificate proves a clause where it checks with the empty query and the clause is that of its last step
pub record Proves (problem : Problem) (certificate : Certificate) (clause : List Lit) : Type 0 where
  pub checks : Checks problem empty_query certificate
  pub ends : (step : Step) × IsLast certificate.steps step × (step.clause ≡ clause)

-- a certificate refutes a query where it checks, and its last step has negations of assumptions alone
pub record Refutes (problem : Problem) (query : Query) (certificate : Certificate) : Type 0 where
  pub checks : Checks problem query certificate
  pub ends : (step : Step) × IsLast certificate.steps step × All (λ lit. Contains query.assumed (opposite lit)) step.clause

-- each clause of a certificate that checks follows from the problem's clauses with the query's locals, and one of the
-- problem's own variables follows without them
pub record CertificateFollows : Type 0 where
  pub each : (problem : Problem) (query : Query) (certificate : Certificate) → IsValidProblem problem → IsValidQuery problem query → Checks problem query certificate
      → All (λ (step : Step). Follows problem.points problem.edges (problem.kinds ++ query.locals) problem.clauses step.clause) certificate.steps
  pub without_locals : (problem : Problem) (query : Query) (certificate : Certificate) → IsValidProblem problem → IsValidQuery problem query → Checks problem query certificate
      → All (λ (step : Step). NamesBelow (length problem.kinds) step.clause → Follows problem.points problem.edges problem.kinds problem.clauses step.clause) certificate.steps
  pub proved : (problem : Problem) (certificate : Certificate) (clause : List Lit) → IsValidProblem problem → Proves problem certificate clause
      → Follows problem.points problem.edges problem.kinds problem.clauses clause

-- no valuation makes the clauses of a problem and the assumptions of a query true that some certificate refutes, and no
-- answer meets the two
pub record RefutedMeans : Type 0 where
  pub no_valuation : (problem : Problem) (query : Query) (certificate : Certificate) → IsValidProblem problem → IsValidQuery problem query → Refutes problem query certificate
      → (truth : ℕ → Bool) (place : ℕ → ℤ) → IsValuation problem.points problem.edges (problem.kinds ++ query.locals) truth place
      → HoldsAll truth problem.clauses → All (HoldsLit truth) query.assumed → ⊥
  pub no_answer : (problem : Problem) (query : Query) (certificate : Certificate) → Refutes problem query certificate
      → (valuation : Valuation) → Meets problem query valuation → ⊥

-- a certificate that checks for a query and has problem variables only checks for the empty query
abbrev pub ChecksWithoutLocals : Type 0
ChecksWithoutLocals = (problem : Problem) (query : Query) (certificate : Certificate) → IsValidProblem problem → Checks problem query certificate
    → All (NamesBelow (length problem.kinds)) (clauses_of certificate.steps) → Checks problem empty_query certificate
