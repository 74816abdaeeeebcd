use Rattle.gp_difference.specs.Start.{AreBoundsOf}
use Rattle.gp_difference.proofs.start.link_all.Given as goal

abbrev pub invariant-loop-edge : goal.invariant-loop-edge
invariant-loop-edge l = AreBoundsOf l.fn.bounds.points l.bounds
