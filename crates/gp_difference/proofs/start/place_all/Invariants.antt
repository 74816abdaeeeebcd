use Rattle.std.proofs.Common.{◌<◌, ◌≤◌, length, ℕ}
use Rattle.std.specs.List.{All}
use Rattle.gp_difference.specs.Places.{AreFresh}
use Rattle.gp_difference.proofs.start.place_all.Given as goal

abbrev pub invariant-loop-point : goal.invariant-loop-point
invariant-loop-point l = All (λ (point : ℕ). point < length l.waits) l.ready.items

abbrev pub invariant-placing : goal.invariant-placing
invariant-placing l = record {
  fresh : AreFresh l.places;
  ready : All (λ (point : ℕ). point < length l.waits) l.ready.items;
  left : l.left ≤ length l.waits;
}
