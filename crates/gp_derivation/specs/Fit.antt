-- Which entries of a log are fit to share: short ones with a small cone that needs nothing but the problem.
use Rattle.std.specs.Prelude.{ℕ, ◌≡◌, ◌≤◌, Option, None, Some, List, length, All}
use Rattle.std.specs.List.{sum_by}
use Rattle.std.specs.Arc.{arc_value}
use Rattle.gp_clause.specs.declared.problem.Problem.{Problem}
use Rattle.gp_clause.specs.Clause.{NamesBelow}
use Rattle.gp_certificate.specs.declared.step.Step.{Step}
use Rattle.gp_certificate.specs.declared.certificate.Certificate.{Certificate}
use Rattle.gp_derivation.specs.declared.log.LogEntry.{LogEntry}
use Rattle.gp_derivation.specs.declared.log.Origin.{Origin}
use Rattle.gp_derivation.specs.declared.log.Origin.TheVariants.{Learned, Taken}
use Rattle.gp_certificate.specs.Certificate.{clauses_of}
use Rattle.gp_derivation.specs.Cones.{IsCone}

-- how many literals the clauses of some steps have
abbrev pub literals_in : List Step → ℕ
literals_in steps = sum_by (λ (step : Step). length step.clause) steps

-- a certificate is small: it has at most 64 steps, at most 2,048 literals in their clauses, and problem variables alone
pub record IsSmall (problem : Problem) (certificate : Certificate) : Type 0 where
  pub steps : length certificate.steps ≤ 64
  pub literals : literals_in certificate.steps ≤ 2048
  pub below : All (NamesBelow (length problem.kinds)) (clauses_of certificate.steps)

-- the cone of an entry by its origin: that of the step where it was learned, and its own certificate where it was taken
abbrev pub IsConeBy : ℕ → List LogEntry → Step → Origin → Certificate → Type 0
IsConeBy bases log step Learned certificate = IsCone bases log step certificate
IsConeBy bases log step (Taken sender own) certificate = certificate ≡ arc_value own

-- an entry is fit to share by its cone: its clause has at most 8 literals, and the cone is small
pub record IsFitBy (problem : Problem) (log : List LogEntry) (entry : LogEntry) (certificate : Certificate) : Type 0 where
  pub few : length entry.step.clause ≤ 8
  pub cone : IsConeBy (length problem.clauses) log entry.step entry.origin certificate
  pub small : IsSmall problem certificate

-- an entry is fit to share
abbrev pub IsFit : Problem → List LogEntry → LogEntry → Type 0
IsFit problem log entry = (certificate : Certificate) × IsFitBy problem log entry certificate

-- what is told of an entry: its cone where it is fit to share, and nothing where it is not
abbrev pub IsSmallCone : Problem → List LogEntry → LogEntry → Option Certificate → Type 0
IsSmallCone problem log entry None = IsFit problem log entry → ⊥
IsSmallCone problem log entry (Some certificate) = IsFitBy problem log entry certificate
