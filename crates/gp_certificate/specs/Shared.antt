-- Certificates over a list of steps that they share with others.
use Rattle.std.specs.Prelude.{ℕ, ◌+◌, ◌<◌, ◌↔◌, Bool, ℤ, List, [], ◌++◌, length, take, All, Contains}
use Rattle.gp_clause.specs.declared.edge.Edge.{Edge}
use Rattle.gp_clause.specs.declared.kind.Kind.{Kind}
use Rattle.gp_clause.specs.declared.lit.Lit.{Lit}
use Rattle.gp_clause.specs.declared.problem.Problem.{Problem}
use Rattle.gp_clause.specs.declared.problem.Query.{Query}
use Rattle.gp_clause.specs.declared.valuation.Valuation.{Valuation}
use Rattle.gp_clause.specs.Clause.{HoldsAll}
use Rattle.gp_clause.specs.Follows.{Follows}
use Rattle.gp_clause.specs.Lit.{HoldsLit, opposite}
use Rattle.gp_clause.specs.Problem.{IsValidProblem, IsValidQuery}
use Rattle.gp_clause.specs.Valuation.{IsValuation, Meets}
use Rattle.gp_certificate.specs.declared.step.Step.{Step}
use Rattle.gp_certificate.specs.declared.certificate.Certificate.{Certificate}
use Rattle.gp_certificate.specs.Certificate.{clauses_of, StepsCheck, StepsPass, Checks, Refutes, IsLast}

-- each own step passes: its hints number the base clauses, the shared ones and the own ones before it, and without hints it
-- may use the base clauses and the own ones before it
abbrev pub OwnStepsPass : List Edge → List Kind → List (List Lit) → List (List Lit) → List (List Lit) → List Step → Type 0
OwnStepsPass edges kinds base shared own steps = StepsPass edges kinds (λ clauses. base ++ shared ++ clauses) (λ clauses. base ++ clauses) own steps

-- a shared list passes where each of its steps checks after the problem's clauses, with the problem's variables
abbrev pub SharedPasses : Problem → List Step → Type 0
SharedPasses problem shared = StepsCheck problem.edges problem.kinds problem.clauses shared

-- each step of a certificate passes over a shared list
abbrev pub PassesOver : Problem → List Step → Query → Certificate → Type 0
PassesOver problem shared query certificate = OwnStepsPass problem.edges (problem.kinds ++ query.locals) problem.clauses (clauses_of shared) [] certificate.steps

-- a certificate checks over a shared list where the list passes and each own step does
pub record ChecksOver (problem : Problem) (shared : List Step) (query : Query) (certificate : Certificate) : Type 0 where
  pub shares : SharedPasses problem shared
  pub own : PassesOver problem shared query certificate

-- it refutes a query over the list where it checks over it, and its last own step has negations of assumptions alone
pub record RefutesOver (problem : Problem) (shared : List Step) (query : Query) (certificate : Certificate) : Type 0 where
  pub checks : ChecksOver problem shared query certificate
  pub ends : (step : Step) × IsLast certificate.steps step × All (λ lit. Contains query.assumed (opposite lit)) step.clause

-- a step of a shared list is the first that fails
pub record FirstFails (problem : Problem) (shared : List Step) (place : ℕ) : Type 0 where
  pub before : SharedPasses problem (take place shared)
  pub within : place < length shared
  pub fails : SharedPasses problem (take (place + 1) shared) → ⊥

-- an own step is the first that fails
pub record FirstOwnFails (edges : List Edge) (kinds : List Kind) (base shared : List (List Lit)) (steps : List Step) (place : ℕ) : Type 0 where
  pub before : OwnStepsPass edges kinds base shared [] (take place steps)
  pub within : place < length steps
  pub fails : OwnStepsPass edges kinds base shared [] (take (place + 1) steps) → ⊥

-- over the empty list, checking and refuting are what they are without a list
pub record SharesNothing : Type 0 where
  pub checks : (problem : Problem) (query : Query) (certificate : Certificate) → ChecksOver problem [] query certificate ↔ Checks problem query certificate
  pub refutes : (problem : Problem) (query : Query) (certificate : Certificate) → RefutesOver problem [] query certificate ↔ Refutes problem query certificate

-- each clause of a shared list that passes follows from the problem's clauses, and so does each clause of a certificate
-- that checks over it
pub record SharedFollows : Type 0 where
  pub shared : (problem : Problem) (steps : List Step) → IsValidProblem problem → SharedPasses problem steps
      → All (λ (step : Step). Follows problem.points problem.edges problem.kinds problem.clauses step.clause) steps
  pub own : (problem : Problem) (steps : List Step) (query : Query) (certificate : Certificate) → IsValidProblem problem → IsValidQuery problem query
      → ChecksOver problem steps query certificate
      → All (λ (step : Step). Follows problem.points problem.edges (problem.kinds ++ query.locals) problem.clauses step.clause) certificate.steps

-- no valuation makes the clauses of a problem and the assumptions of a query true that some certificate refutes over a
-- shared list, and no answer meets the two
pub record RefutedOverMeans : Type 0 where
  pub no_valuation : (problem : Problem) (shared : List Step) (query : Query) (certificate : Certificate) → IsValidProblem problem → IsValidQuery problem query
      → RefutesOver problem shared query certificate → (truth : ℕ → Bool) (place : ℕ → ℤ)
      → IsValuation problem.points problem.edges (problem.kinds ++ query.locals) truth place → HoldsAll truth problem.clauses → All (HoldsLit truth) query.assumed → ⊥
  pub no_answer : (problem : Problem) (shared : List Step) (query : Query) (certificate : Certificate) → RefutesOver problem shared query certificate
      → (valuation : Valuation) → Meets problem query valuation → ⊥
