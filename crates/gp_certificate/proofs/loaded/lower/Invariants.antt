use Rattle.gp_certificate.proofs.Rowing.{IsLowering}
use Rattle.gp_certificate.proofs.loaded.lower.Given as goal

abbrev pub invariant-loop-number : goal.invariant-loop-number
invariant-loop-number l = IsLowering l.fn.left.items l.left.items l.row l.number-index
