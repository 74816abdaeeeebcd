-- After two points there are three parts at least, and they name no event.
use Rattle.std.proofs.Common.{sym}
use Rattle.gp_window.proofs.EventIds.{second_point}
use Rattle.gp_window.proofs.event_id.event_id_of.Goals as goal

pub returns-in-Some : goal.returns-in-Some
returns-in-Some c = rw (c.in_ok-thread.ensures.parts, c.in-Some.ensures.parts) (sym (second_point c.in_ok-thread.thread.now c.in-Some.field-0.0.now c.in-Some.field-0.1.now))
