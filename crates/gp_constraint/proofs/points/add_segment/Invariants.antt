use Rattle.std.proofs.Common.{◌≡◌, ◌+◌, ◌++◌, length, drop}
use Rattle.gp_constraint.specs.Points.{points_in}
use Rattle.gp_constraint.proofs.points.add_segment.Given as goal

abbrev pub invariant-loop-index : goal.invariant-loop-index
invariant-loop-index l = record {
  points : l.points ++ points_in l.thread l.index (length l.points) (drop l.index l.events) ≡ l.initial.points ++ points_in l.thread 0 (length l.initial.points) l.events;
  count : length l.points ≡ length l.initial.points + l.index;
}
