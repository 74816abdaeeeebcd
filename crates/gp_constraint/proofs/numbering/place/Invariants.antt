use Rattle.std.proofs.Common.{◌≡◌, ◌++◌, drop, take}
use Rattle.gp_constraint.specs.Numbering.{with_lit}
use Rattle.gp_constraint.proofs.numbering.place.Given as goal

abbrev pub invariant-loop-i : goal.invariant-loop-i
invariant-loop-i l = with_lit l.lits l.lit ≡ take l.i l.lits ++ with_lit (drop l.i l.lits) l.lit
