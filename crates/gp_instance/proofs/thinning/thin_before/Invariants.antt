use Rattle.gp_instance.specs.Search.{FindsSame}
use Rattle.gp_instance.proofs.thinning.thin_before.Given as goal

abbrev pub invariant-loop-first : goal.invariant-loop-first
invariant-loop-first l = FindsSame l.segments l.atoms l.initial.domains l.domains
