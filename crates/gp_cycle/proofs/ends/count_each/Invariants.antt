use Rattle.gp_cycle.specs.DeadEnds.{AreCounts}
use Rattle.gp_cycle.proofs.ends.count_each.Given as goal

abbrev pub invariant-loop-place : goal.invariant-loop-place
invariant-loop-place l = AreCounts l.orders l.counts
