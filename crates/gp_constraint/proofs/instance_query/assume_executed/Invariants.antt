use Rattle.std.proofs.Common.{◌≡◌, ◌++◌, drop}
use Rattle.std.specs.Prelude.{map}
use Rattle.gp_constraint.specs.Numbering.{numbered_lit}
use Rattle.gp_constraint.specs.QueryNames.{all_names}
use Rattle.gp_constraint.specs.Query.{executed_lits}
use Rattle.gp_constraint.proofs.instance_query.assume_executed.Given as goal

abbrev pub invariant-loop-id : goal.invariant-loop-id
invariant-loop-id l = l.assumed ++ map (numbered_lit (all_names l.names)) (executed_lits l.encoded (drop l.id-index l.ids)) ≡ l.initial.assumed ++ map (numbered_lit (all_names l.names)) (executed_lits l.encoded l.ids)
