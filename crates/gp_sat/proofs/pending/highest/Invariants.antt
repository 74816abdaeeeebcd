use Rattle.std.proofs.Common.{slice_index_or, None, take}
use Rattle.gp_sat.specs.Choosing.{IsBest}
use Rattle.gp_sat.proofs.pending.highest.Given as goal

abbrev pub invariant-loop-lit : goal.invariant-loop-lit
invariant-loop-lit l = IsBest (λ variable. slice_index_or l.values variable None) (take l.lit-index l.lits) l.one l.best
