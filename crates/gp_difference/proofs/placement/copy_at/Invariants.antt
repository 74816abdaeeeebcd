use Rattle.std.proofs.Common.{◌≡◌, length}
use Rattle.gp_difference.specs.Placement.{DifferFrom}
use Rattle.gp_difference.proofs.placement.copy_at.Given as goal

abbrev pub invariant-loop-point : goal.invariant-loop-point
invariant-loop-point l = record {
  size : length l.to ≡ length l.from;
  falls_size : length l.falls ≡ length l.from;
  differ : DifferFrom l.points l.point-index l.from l.to l.falls;
}
