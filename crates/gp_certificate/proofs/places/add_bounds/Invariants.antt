use Rattle.gp_certificate.proofs.Bounding.{IsBounded}
use Rattle.gp_certificate.proofs.places.add_bounds.Given as goal

abbrev pub invariant-loop-lit : goal.invariant-loop-lit
invariant-loop-lit l = IsBounded l.kinds l.lits l.lit-index l.fn.graph l.graph
