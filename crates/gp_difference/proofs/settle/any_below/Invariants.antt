use Rattle.std.proofs.Common.{ℕ, ◌<◌}
use Rattle.std.specs.Prelude.{◌≤ℤ◌}
use Rattle.gp_difference.specs.Places.{place_at}
use Rattle.gp_difference.proofs.settle.any_below.Given as goal

abbrev pub invariant-loop-place : goal.invariant-loop-place
invariant-loop-place l = (v : ℕ) → v < l.place-index → l.limit ≤ℤ place_at l.places v
