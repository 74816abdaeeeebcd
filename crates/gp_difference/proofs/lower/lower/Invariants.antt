use Rattle.gp_difference.specs.Placement.{Stays}
use Rattle.gp_difference.specs.Lower.{Running}
use Rattle.gp_difference.proofs.lower.lower.Given as goal

abbrev pub invariant-settling : goal.invariant-settling
invariant-settling l = record {
  stays : Stays l.initial.run l.run;
  run : Running l.bounds.bounds l.new l.run l.counter;
}
