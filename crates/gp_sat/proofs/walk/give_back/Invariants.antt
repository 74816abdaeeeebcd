use Rattle.gp_sat.specs.Stepping.{IsReturning, KeepsShorts, work}
use Rattle.gp_sat.proofs.walk.give_back.Given as goal

abbrev pub invariant-loop-fallen : goal.invariant-loop-fallen
invariant-loop-fallen l = record { returning : IsReturning l.kernel l.watches l.fallen; kept : KeepsShorts l.fn.watches l.watches }

abbrev pub decreases-loop-fallen : goal.decreases-loop-fallen
decreases-loop-fallen l = work l.watches
