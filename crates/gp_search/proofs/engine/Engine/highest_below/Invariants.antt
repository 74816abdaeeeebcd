use Rattle.std.proofs.Common.{take}
use Rattle.gp_sat.specs.Learning.{IsHighestBelow}
use Rattle.gp_search.proofs.engine.Engine.highest_below.Given as goal

abbrev pub invariant-loop-lit : goal.invariant-loop-lit
invariant-loop-lit l = IsHighestBelow l.self.solver (take l.lit-index l.lits) l.level
