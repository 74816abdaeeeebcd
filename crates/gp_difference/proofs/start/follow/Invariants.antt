use Rattle.std.proofs.Common.{◌<◌, ◌≤◌, length, ℕ}
use Rattle.std.specs.List.{All}
use Rattle.gp_difference.specs.Places.{AreFresh}
use Rattle.gp_difference.proofs.start.follow.Given as goal

abbrev pub invariant-loop-left : goal.invariant-loop-left
invariant-loop-left l = record {
  left : l.left ≤ length l.bounds.bounds;
  fresh : AreFresh l.places;
  ready : All (λ (point : ℕ). point < length l.places) l.ready.items;
}

abbrev pub decreases-loop-left : goal.decreases-loop-left
decreases-loop-left l = l.left
