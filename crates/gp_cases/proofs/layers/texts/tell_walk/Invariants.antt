use Rattle.std.proofs.Common.{length}
use Rattle.gp_cases.proofs.layers.texts.tell_walk.Given as goal

abbrev pub decreases-loop-line : goal.decreases-loop-line
decreases-loop-line l = length l.lines
