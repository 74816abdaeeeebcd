use Rattle.std.proofs.Common.{take}
use Rattle.gp_sat.specs.State.{assigned}
use Rattle.gp_sat.specs.Standing.{IsFalse, Each}
use Rattle.gp_solver_rows.proofs.sat.are_false.Given as goal

abbrev pub invariant-loop-lit : goal.invariant-loop-lit
invariant-loop-lit l = Each (IsFalse (assigned l.solver)) (take l.lit-index l.lits)
