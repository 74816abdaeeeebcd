use Rattle.std.proofs.Common.{◌≡◌, drop}
use Rattle.gp_cycle.specs.Cycle.{cycle_among, cycle_of}
use Rattle.gp_cycle.proofs.cycles.cycle_of.Given as goal

abbrev pub invariant-loop-place : goal.invariant-loop-place
invariant-loop-place l = cycle_among l.orders (drop l.place l.orders) ≡ cycle_of l.orders
