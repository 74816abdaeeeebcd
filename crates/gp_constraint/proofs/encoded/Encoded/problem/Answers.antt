use Rattle.std.proofs.Common.{subst, sym}
use Rattle.gp_clause.specs.Problem.{IsValidProblem}
use Rattle.gp_constraint.proofs.Valid.{base_valid}
use Rattle.gp_constraint.proofs.encoded.Encoded.problem.Goals as goal

pub returns-clause-valid : goal.returns-clause-valid
returns-clause-valid c =
    subst IsValidProblem (sym c.self.invariant.problem_is) (base_valid c.self.inside.window c.self.invariant.encodable.points c.self.invariant.encodable.clauses)
