use Rattle.gp_cycle.specs.DeadEnds.{AreCounts}
use Rattle.gp_cycle.proofs.ends.count_all.Given as goal

abbrev pub invariant-loop-round : goal.invariant-loop-round
invariant-loop-round l = AreCounts l.orders l.counts
