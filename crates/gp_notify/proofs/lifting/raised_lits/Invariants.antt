use Rattle.std.proofs.Common.{◌≡◌, ◌++◌, drop, map}
use Rattle.gp_notify.specs.Lift.{raised_lit}
use Rattle.gp_notify.proofs.lifting.raised_lits.Given as goal

abbrev pub invariant-loop-lit : goal.invariant-loop-lit
invariant-loop-lit l = l.raised ++ map (raised_lit l.old l.new) (drop l.lit-index l.lits) ≡ map (raised_lit l.old l.new) l.lits
