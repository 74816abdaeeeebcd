-- Certificates that were made alone, told over a list of shared steps.
use Rattle.std.specs.Prelude.{ℕ, List, [], length, map}
use Rattle.gp_clause.specs.declared.problem.Problem.{Problem}
use Rattle.gp_clause.specs.declared.problem.Query.{Query}
use Rattle.gp_certificate.specs.declared.step.Step.{Step}
use Rattle.gp_certificate.specs.declared.certificate.Certificate.{Certificate}
use Rattle.gp_certificate.specs.Shared.{SharedPasses, RefutesOver}
use Rattle.gp_derivation.specs.Numbering.{moved, with_hints}

-- a certificate over so many base clauses, where so many shared steps come between these and its own: a hint to a base
-- clause stays, and one to an own step moves past the shared ones
abbrev pub raised : ℕ → ℕ → Certificate → Certificate
raised clauses gained certificate = record { steps = map (with_hints (moved clauses gained)) certificate.steps }

-- what refutes a query alone refutes it, raised, over a shared list that passes
abbrev pub RaisedRefutes : Type 0
RaisedRefutes = (problem : Problem) (shared : List Step) (query : Query) (certificate : Certificate) → SharedPasses problem shared → RefutesOver problem [] query certificate
    → RefutesOver problem shared query (raised (length problem.clauses) (length shared) certificate)
