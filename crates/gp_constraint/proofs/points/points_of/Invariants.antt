use Rattle.std.proofs.Common.{◌≡◌, ◌+◌, ◌++◌, length, drop}
use Rattle.gp_constraint.specs.Points.{points_from, points_of}
use Rattle.gp_constraint.proofs.points.points_of.Given as goal

abbrev pub invariant-loop-segment : goal.invariant-loop-segment
invariant-loop-segment l = record {
  thread : l.thread ≡ l.segment-index + 1;
  points : l.points ++ points_from l.thread (length l.points) (drop l.segment-index l.segment-items) ≡ points_of l.window;
}
