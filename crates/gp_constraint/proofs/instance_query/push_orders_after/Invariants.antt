use Rattle.std.proofs.Common.{◌≡◌, ◌++◌, drop}
use Rattle.std.specs.Prelude.{flat_map}
use Rattle.gp_constraint.specs.Query.{order_lit}
use Rattle.gp_constraint.proofs.instance_query.push_orders_after.Given as goal

abbrev pub invariant-loop-other : goal.invariant-loop-other
invariant-loop-other l = l.lits ++ flat_map (order_lit l.encoded l.one) (drop l.other-index l.group) ≡ l.initial.lits ++ flat_map (order_lit l.encoded l.one) l.group
