use Rattle.std.proofs.Common.{◌≡◌, ℕ, ◌<◌, length}
use Rattle.gp_difference.specs.Falls.{MayRise, fall_at}
use Rattle.gp_difference.proofs.falls.rise.Given as goal

abbrev pub invariant-loop-spot : goal.invariant-loop-spot
invariant-loop-spot l = record {
  size : length l.order ≡ length l.numbers;
  within : l.spot < length l.order;
  number : l.number ≡ fall_at l.numbers l.order l.spot;
  rise : (count : ℕ) → MayRise l.numbers l.initial.order count l.initial.spot → MayRise l.numbers l.order count l.spot;
}

abbrev pub decreases-loop-spot : goal.decreases-loop-spot
decreases-loop-spot l = l.spot
