use Rattle.gp_cases.specs.Bounds.{KeepsBelow}
use Rattle.gp_cases.proofs.encodings.executing.keep_bounds.Given as goal

abbrev pub invariant-loop-variable : goal.invariant-loop-variable
invariant-loop-variable l = KeepsBelow l.valuation l.kinds l.variable
