-- The span of the key takes the event in, and those before it.
use Rattle.gp_instance.proofs.Held.{held_here, held_still}
use Rattle.gp_instance.proofs.partners.hold.Goals as goal

pub returns-clause-here : goal.returns-clause-here
returns-clause-here c = held_here _ _ _ _ c.in_ok-insert.ensures.updates.1 c.widened-span.ensures.here

pub returns-clause-kept : goal.returns-clause-kept
returns-clause-kept c = held_still _ _ _ c.span_at.result c.widened-span.result c.span_at.ensures c.widened-span.ensures.kept c.in_ok-insert.ensures.updates.0
