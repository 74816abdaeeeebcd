use Rattle.std.proofs.Common.{◌≡◌, ◌++◌, drop}
use Rattle.std.specs.Prelude.{flat_map}
use Rattle.gp_constraint.specs.Query.{order_lit}
use Rattle.gp_constraint.proofs.instance_query.push_orders_between.Given as goal

abbrev pub invariant-loop-one : goal.invariant-loop-one
invariant-loop-one l = l.lits ++ flat_map (λ one. flat_map (order_lit l.encoded one) l.group) (drop l.one-index l.before) ≡ l.initial.lits ++ flat_map (λ one. flat_map (order_lit l.encoded one) l.group) l.before
