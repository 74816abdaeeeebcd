use Rattle.std.proofs.Common.{◌≡◌, ℕ, ◌<◌, length, slice_index}
use Rattle.gp_difference.proofs.order.number.Given as goal

abbrev pub invariant-loop-index : goal.invariant-loop-index
invariant-loop-index l = record {
  size : length l.points ≡ length l.initial.points;
  numbers : (k : ℕ) → k < l.index → slice_index l.points k ≡ k;
}
