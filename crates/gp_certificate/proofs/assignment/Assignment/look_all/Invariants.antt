use Rattle.gp_certificate.proofs.Propagating.{IsLooking}
use Rattle.gp_certificate.proofs.assignment.Assignment.look_all.Given as goal

abbrev pub invariant-loop-number : goal.invariant-loop-number
invariant-loop-number l = IsLooking l.loaded l.fn.self l.self l.numbers l.number-index
