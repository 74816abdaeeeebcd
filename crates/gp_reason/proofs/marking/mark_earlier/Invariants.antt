-- The steps from this place on were passed, whatever is told behind them.
use Rattle.std.proofs.Common.{◌+◌, ◌≤◌, List, drop, length}
use Rattle.gp_reason.specs.Marks.{AreCited, AreWalked}
use Rattle.gp_reason.specs.Told.{numbered, NumberedStep}
use Rattle.gp_reason.proofs.marking.mark_earlier.Given as goal

abbrev pub invariant-loop-place : goal.invariant-loop-place
invariant-loop-place l = record {
  within : l.place ≤ length l.steps;
  walked : (told : List NumberedStep) → AreCited l.fn.marks (l.first + length l.steps) told
      → AreWalked l.fn.marks l.marks (l.first + l.place) (l.first + length l.steps) (drop l.place (numbered l.first l.steps)) told;
}
