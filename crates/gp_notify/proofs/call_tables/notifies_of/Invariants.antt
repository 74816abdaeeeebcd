use Rattle.std.proofs.Common.{◌≡◌, take}
use Rattle.std.specs.Prelude.{filter}
use Rattle.gp_notify.specs.Calls.{call_at, is_notify}
use Rattle.gp_notify.proofs.call_tables.notifies_of.Given as goal

abbrev pub invariant-loop-p : goal.invariant-loop-p
invariant-loop-p l = l.notifies ≡ filter (λ p. is_notify (call_at l.window p.id)) (take l.p-index l.points)
