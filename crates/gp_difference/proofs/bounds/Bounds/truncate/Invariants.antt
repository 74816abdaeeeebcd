use Rattle.std.proofs.Common.{◌≡◌, ◌+◌, ◌≤◌, length, take}
use Rattle.gp_difference.proofs.bounds.Bounds.truncate.Given as goal

abbrev pub invariant-loop-self : goal.invariant-loop-self
invariant-loop-self l = record {
  points : l.self.points ≡ l.initial.self.points;
  fits : l.count ≤ length l.self.bounds;
  bounds : l.self.bounds ≡ take (length l.self.bounds) l.initial.self.bounds;
  room : l.self.room + length l.self.bounds ≡ l.initial.self.room + length l.initial.self.bounds;
}

abbrev pub decreases-loop-self : goal.decreases-loop-self
decreases-loop-self l = length l.self.bounds
