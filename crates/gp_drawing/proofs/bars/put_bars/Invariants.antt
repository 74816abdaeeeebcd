use Rattle.std.proofs.Common.{◌≡◌, ◌++◌, drop}
use Rattle.gp_drawing.specs.Bars.{bars_from}
use Rattle.gp_drawing.proofs.bars.put_bars.Given as goal

abbrev pub invariant-loop-index : goal.invariant-loop-index
invariant-loop-index l = l.bars ++ bars_from l.window (drop l.index l.placed) ≡ l.initial.bars ++ bars_from l.window l.placed
