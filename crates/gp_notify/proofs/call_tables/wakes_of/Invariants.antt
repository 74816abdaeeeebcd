use Rattle.std.proofs.Common.{◌≡◌, take}
use Rattle.std.specs.Prelude.{filter}
use Rattle.gp_notify.specs.Calls.{call_at, is_wake}
use Rattle.gp_notify.proofs.call_tables.wakes_of.Given as goal

abbrev pub invariant-loop-p : goal.invariant-loop-p
invariant-loop-p l = l.wakes ≡ filter (λ p. is_wake (call_at l.window p.id)) (take l.p-index l.points)
