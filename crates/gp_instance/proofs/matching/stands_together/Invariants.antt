use Rattle.std.proofs.Common.{◌≡◌, drop}
use Rattle.gp_instance.specs.Matches.{stands_together}
use Rattle.gp_instance.proofs.matching.stands_together.Given as goal

abbrev pub invariant-loop-start : goal.invariant-loop-start
invariant-loop-start l = stands_together l.group (drop l.start l.schedule) ≡ stands_together l.group l.schedule
