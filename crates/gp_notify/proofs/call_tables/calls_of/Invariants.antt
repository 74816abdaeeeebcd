use Rattle.std.proofs.Common.{◌≡◌, take}
use Rattle.std.specs.Prelude.{filter, is_some}
use Rattle.gp_notify.specs.Calls.{call_at}
use Rattle.gp_notify.proofs.call_tables.calls_of.Given as goal

abbrev pub invariant-loop-p : goal.invariant-loop-p
invariant-loop-p l = l.calls ≡ filter (λ p. is_some (call_at l.window p.id)) (take l.p-index l.points)
