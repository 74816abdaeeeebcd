use Rattle.gp_instance.specs.Search.{FindsSame}
use Rattle.gp_instance.proofs.thinning.thinned.Given as goal

abbrev pub invariant-loop-round : goal.invariant-loop-round
invariant-loop-round l = FindsSame l.segments l.atoms l.fn.domains l.thin
