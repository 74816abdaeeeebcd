use Rattle.gp_difference.specs.Anew.{IsLevelled}
use Rattle.gp_difference.proofs.anew.put_level.Given as goal

abbrev pub invariant-loop-point : goal.invariant-loop-point
invariant-loop-point l = IsLevelled l.places l.initial.labels l.labels l.value l.level l.point
