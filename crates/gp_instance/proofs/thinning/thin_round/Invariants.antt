use Rattle.gp_instance.specs.Search.{FindsSame}
use Rattle.gp_instance.proofs.thinning.thin_round.Given as goal

abbrev pub invariant-loop-second : goal.invariant-loop-second
invariant-loop-second l = FindsSame l.segments l.atoms l.initial.domains l.domains
