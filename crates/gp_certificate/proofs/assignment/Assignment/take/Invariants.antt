use Rattle.gp_certificate.proofs.Propagating.{IsTaking}
use Rattle.gp_certificate.proofs.assignment.Assignment.take.Given as goal

abbrev pub invariant-loop-lit : goal.invariant-loop-lit
invariant-loop-lit l = IsTaking l.fn.self l.self l.lits l.lit-index
