use Rattle.std.specs.Prelude.{◌≡◌}
use Rattle.gp_solver_rows.proofs.search.all_answered.Given as goal

abbrev pub invariant-loop-one : goal.invariant-loop-one
invariant-loop-one g l = l.search.problem ≡ l.problem
