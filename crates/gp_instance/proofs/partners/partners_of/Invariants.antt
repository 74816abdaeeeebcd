use Rattle.std.proofs.Common.{ℕ, ◌<◌, get_or}
use Rattle.gp_window.specs.declared.schedule.EventId.{EventId}
use Rattle.gp_instance.specs.Partners.{Counts}
use Rattle.gp_instance.proofs.partners.partners_of.Given as goal

abbrev pub invariant-loop-id : goal.invariant-loop-id
invariant-loop-id l = (k : ℕ) (e : EventId) → k < l.id-index → Counts l.segments l.link l.side l.partners (get_or l.ids k e)
