use Rattle.gp_sat.specs.Changes.{Propagates}
use Rattle.gp_sat.specs.Stepping.{IsReady}
use Rattle.gp_sat.specs.Choosing.{left_over}
use Rattle.gp_sat.proofs.propagation.run.Given as goal

abbrev pub invariant-loop-number : goal.invariant-loop-number
invariant-loop-number l = record { ready : IsReady l.kernel l.watches; added : Propagates l.fn.kernel l.kernel }

abbrev pub decreases-loop-number : goal.decreases-loop-number
decreases-loop-number l = left_over l.kernel l.watches
