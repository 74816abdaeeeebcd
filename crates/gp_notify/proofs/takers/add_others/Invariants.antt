use Rattle.std.proofs.Common.{◌≡◌, take}
use Rattle.std.specs.Prelude.{◌==◌, filter, not}
use Rattle.gp_notify.proofs.takers.add_others.Given as goal

abbrev pub invariant-loop-other : goal.invariant-loop-other
invariant-loop-other l = l.others ≡ filter (λ other. not (other.id.thread == l.p.id.thread)) (take l.other-index l.points)
