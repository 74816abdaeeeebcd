use Rattle.std.proofs.Common.{take}
use Rattle.gp_sat.specs.Marking.{IsLowestOf}
use Rattle.gp_sat.proofs.kernel.Kernel.lowest_of.Given as goal

abbrev pub invariant-loop-lit : goal.invariant-loop-lit
invariant-loop-lit l = IsLowestOf l.self (take l.lit-index l.lits) l.lowest l.least
