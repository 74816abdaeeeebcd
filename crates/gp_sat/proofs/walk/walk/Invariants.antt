use Rattle.gp_sat.specs.Stepping.{OnWalk, work}
use Rattle.gp_sat.proofs.walk.walk.Given as goal

abbrev pub invariant-loop-fallen : goal.invariant-loop-fallen
invariant-loop-fallen l = OnWalk l.fn.kernel l.kernel l.fn.watches l.watches l.fallen

abbrev pub decreases-loop-fallen : goal.decreases-loop-fallen
decreases-loop-fallen l = work l.watches
