use Rattle.std.proofs.Common.{ℕ, ◌<◌}
use Rattle.gp_cycle.specs.DeadEnds.{StopsAt}
use Rattle.gp_cycle.proofs.ends.next_place.Given as goal

abbrev pub invariant-loop-place : goal.invariant-loop-place
invariant-loop-place l = (place : ℕ) → place < l.place → StopsAt l.orders l.counts l.order place
