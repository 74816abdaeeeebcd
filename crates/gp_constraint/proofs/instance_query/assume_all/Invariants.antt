use Rattle.std.proofs.Common.{◌≡◌, ◌++◌, drop}
use Rattle.std.specs.Prelude.{map}
use Rattle.gp_constraint.specs.Numbering.{numbered_lit}
use Rattle.gp_constraint.specs.QueryNames.{all_names}
use Rattle.gp_constraint.proofs.instance_query.assume_all.Given as goal

abbrev pub invariant-loop-lit : goal.invariant-loop-lit
invariant-loop-lit l = l.assumed ++ map (numbered_lit (all_names l.names)) (drop l.lit-index l.lits) ≡ l.initial.assumed ++ map (numbered_lit (all_names l.names)) l.lits
