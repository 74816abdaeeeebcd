use Rattle.std.proofs.Common.{◌≡◌, drop}
use Rattle.gp_drawing.specs.Bars.{row_given_back}
use Rattle.gp_drawing.proofs.bars.row_given_back.Given as goal

abbrev pub invariant-loop-one : goal.invariant-loop-one
invariant-loop-one l = row_given_back l.window l.thread l.lock (drop l.one-index l.placed) ≡ row_given_back l.window l.thread l.lock l.placed
