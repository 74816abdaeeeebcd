use Rattle.std.proofs.Common.{◌≡◌, ◌++◌, [], drop}
use Rattle.gp_instance.specs.Matches.{groups_of}
use Rattle.gp_constraint.specs.Query.{orders_from}
use Rattle.gp_constraint.proofs.instance_query.push_orders.Given as goal

abbrev pub invariant-loop-step : goal.invariant-loop-step
invariant-loop-step l = l.lits ++ orders_from l.encoded l.before (groups_of (drop l.step-index l.pattern) l.rest) ≡ l.initial.lits ++ orders_from l.encoded [] (groups_of l.pattern l.ids)
