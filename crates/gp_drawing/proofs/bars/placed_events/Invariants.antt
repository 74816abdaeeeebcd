use Rattle.std.proofs.Common.{◌≡◌, ◌++◌, drop}
use Rattle.gp_drawing.specs.Bars.{placed_from}
use Rattle.gp_drawing.proofs.bars.placed_events.Given as goal

abbrev pub invariant-loop-row : goal.invariant-loop-row
invariant-loop-row l = l.placed ++ placed_from l.row (drop l.row l.parts) ≡ placed_from 0 l.parts
