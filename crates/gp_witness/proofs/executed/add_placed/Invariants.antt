use Rattle.std.proofs.Common.{◌≡◌, ◌+◌, ◌++◌, drop}
use Rattle.std.specs.Prelude.{flat_map}
use Rattle.gp_constraint.specs.Points.{points_in}
use Rattle.gp_witness.specs.Placed.{placed_of}
use Rattle.gp_witness.proofs.executed.add_placed.Given as goal

abbrev pub invariant-loop-index : goal.invariant-loop-index
invariant-loop-index l =
    l.placed.items ++ flat_map (placed_of l.valuation) (points_in l.thread l.index (l.number + l.index) (drop l.index l.events))
    ≡ l.initial.placed.items ++ flat_map (placed_of l.valuation) (points_in l.thread 0 l.number l.events)
