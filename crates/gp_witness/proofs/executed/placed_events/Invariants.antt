use Rattle.std.proofs.Common.{◌≡◌, ◌+◌, ◌*◌, ◌^◌, ◌≤◌, ◌++◌, drop}
use Rattle.std.specs.Prelude.{flat_map}
use Rattle.gp_constraint.specs.Points.{points_from, points_of}
use Rattle.gp_witness.specs.Placed.{placed_of}
use Rattle.gp_witness.proofs.executed.placed_events.Given as goal

abbrev pub invariant-loop-place : goal.invariant-loop-place
invariant-loop-place l = record {
  placed : l.placed.items ++ flat_map (placed_of l.valuation) (points_from (l.place + 1) l.number (drop l.place l.segment-items)) ≡ flat_map (placed_of l.valuation) (points_of l.window);
  count : l.number ≤ l.place * 2 ^ 32;
}
