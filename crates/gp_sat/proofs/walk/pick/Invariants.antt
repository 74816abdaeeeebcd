use Rattle.std.proofs.Common.{slice_index_or, None, take}
use Rattle.gp_sat.specs.Standing.{IsFalse, EachOther}
use Rattle.gp_sat.proofs.walk.pick.Given as goal

abbrev pub invariant-loop-lit : goal.invariant-loop-lit
invariant-loop-lit l = EachOther (IsFalse (λ variable. slice_index_or l.values variable None)) (take l.lit-index l.lits) l.other
