use Rattle.std.proofs.Common.{◌≡◌, ◌++◌, drop}
use Rattle.gp_cycle.proofs.forcing.add_all.Given as goal

abbrev pub invariant-loop-lit : goal.invariant-loop-lit
invariant-loop-lit l = l.known ++ drop l.lit-index l.lits ≡ l.initial.known ++ l.lits
