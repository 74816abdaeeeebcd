use Rattle.std.proofs.Common.{◌≡◌, length, take}
use Rattle.gp_search.specs.Moves.{of_clauses}
use Rattle.gp_search.proofs.engine.attach_all.Given as goal

abbrev pub invariant-loop-clause : goal.invariant-loop-clause
invariant-loop-clause l = l.solver ≡ of_clauses (length l.problem.kinds) (take l.clause-index l.problem.clauses)
