use Rattle.std.proofs.Common.{◌≡◌}
use Rattle.gp_notify.specs.Sleeping.{slept_at}
use Rattle.gp_notify.proofs.sleeping.slept_at.Given as goal

abbrev pub invariant-loop-index : goal.invariant-loop-index
invariant-loop-index l = slept_at l.condition l.events l.index ≡ slept_at l.condition l.events l.count
