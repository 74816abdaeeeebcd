use Rattle.std.proofs.Common.{slice_index_or, None, take}
use Rattle.gp_sat.specs.Standing.{IsFalse, Each}
use Rattle.gp_sat.proofs.pending.first_open.Given as goal

abbrev pub invariant-loop-lit : goal.invariant-loop-lit
invariant-loop-lit l = Each (IsFalse (λ variable. slice_index_or l.values variable None)) (take l.lit-index l.lits)
