-- Clauses that searches over one problem pass to each other.
use Rattle.std.specs.Prelude.{ℕ, ◌≡◌, ◌≤◌, Some, List, length, slice_get}
use Rattle.std.specs.Arc.{arc_value}
use Rattle.gp_clause.specs.declared.kind.Kind.{Kind}
use Rattle.gp_clause.specs.declared.lit.Lit.{Lit}
use Rattle.gp_clause.specs.declared.problem.Problem.{Problem}
use Rattle.gp_clause.specs.Follows.{Follows}
use Rattle.gp_clause.specs.Problem.{IsValidProblem}
use Rattle.gp_certificate.specs.declared.certificate.Certificate.{Certificate}
use Rattle.gp_derivation.specs.declared.exchange.SharedClause.{SharedClause}
use Rattle.gp_derivation.specs.declared.log.LogEntry.{LogEntry}
use Rattle.gp_certificate.specs.Certificate.{Proves}
use Rattle.gp_derivation.specs.Fit.{IsFitBy, IsSmall}
use Rattle.gp_derivation.specs.Log.{LogPasses}

-- a clause is good for a problem by a certificate: it has at most 8 literals, and the certificate is small and proves it
pub record IsGoodBy (problem : Problem) (clause : List Lit) (certificate : Certificate) : Type 0 where
  pub few : length clause ≤ 8
  pub small : IsSmall problem certificate
  pub proves : Proves problem certificate clause

-- a shared clause is good for a problem: it is by the certificate that it comes with
abbrev pub IsGood : Problem → SharedClause → Type 0
IsGood problem shared = IsGoodBy problem shared.clause (arc_value shared.certificate)

-- in a log whose entries pass, the clause of an entry that is fit to share is good for the problem by its cone
abbrev pub FitIsGood : Type 0
FitIsGood = (problem : Problem) (locals : List Kind) (log : List LogEntry) (begins : ℕ) → IsValidProblem problem → LogPasses problem locals log begins
    → (place : ℕ) (entry : LogEntry) (certificate : Certificate) → slice_get log place ≡ Some entry → IsFitBy problem log entry certificate
    → IsGoodBy problem entry.step.clause certificate

-- a clause that is good for a problem follows from it
abbrev pub GoodFollows : Type 0
GoodFollows = (problem : Problem) (clause : List Lit) (certificate : Certificate) → IsValidProblem problem → IsGoodBy problem clause certificate
    → Follows problem.points problem.edges problem.kinds problem.clauses clause
