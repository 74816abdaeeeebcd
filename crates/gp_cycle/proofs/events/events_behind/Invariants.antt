use Rattle.std.proofs.Common.{◌≡◌, ◌++◌, drop}
use Rattle.gp_cycle.specs.Cycle.{events_behind}
use Rattle.gp_cycle.proofs.events.events_behind.Given as goal

abbrev pub invariant-loop-order : goal.invariant-loop-order
invariant-loop-order l = l.events ++ events_behind l.last (drop l.order-index l.orders) ≡ events_behind l.fn.before l.orders
