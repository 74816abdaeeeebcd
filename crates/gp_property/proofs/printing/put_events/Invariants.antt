use Rattle.std.proofs.Common.{◌≡◌, ◌++◌, drop, map}
use Rattle.gp_text.specs.Spelling.{spelling}
use Rattle.gp_property.specs.Words.{event_words}
use Rattle.gp_property.proofs.printing.put_events.Given as goal

abbrev pub invariant-loop-event : goal.invariant-loop-event
invariant-loop-event l = l.text.items ++ spelling (map event_words (drop l.event-index l.events)) ≡ l.initial.text.items ++ spelling (map event_words l.events)
