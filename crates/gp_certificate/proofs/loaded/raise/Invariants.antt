use Rattle.gp_certificate.proofs.Rowing.{IsRaising}
use Rattle.gp_certificate.proofs.loaded.raise.Given as goal

abbrev pub invariant-loop-number : goal.invariant-loop-number
invariant-loop-number l = IsRaising l.fn.left.items l.left.items l.row l.number-index
