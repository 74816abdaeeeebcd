use Rattle.std.proofs.Common.{length}
use Rattle.gp_cycle.specs.Cycle.{shortest}
use Rattle.gp_cycle.proofs.Tried.{AreTried}
use Rattle.gp_cycle.proofs.cycles.shortest_by.Given as goal

abbrev pub invariant-loop-count : goal.invariant-loop-count
invariant-loop-count l = AreTried l.orders l.order l._count l.levels (shortest l.orders (length l.orders) 0 l.order l.order)
