use Rattle.std.proofs.Common.{ℕ, ◌<◌, get_or}
use Rattle.std.specs.Prelude.{◌≤ℤ◌}
use Rattle.gp_difference.specs.Places.{place_at}
use Rattle.gp_difference.proofs.placement.any_at_below.Given as goal

abbrev pub invariant-loop-point : goal.invariant-loop-point
invariant-loop-point l = (k : ℕ) → k < l.point-index → l.limit ≤ℤ place_at l.places (get_or l.points k 0)
