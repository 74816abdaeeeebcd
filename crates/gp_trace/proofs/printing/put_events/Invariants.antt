use Rattle.std.proofs.Common.{◌≡◌, ◌++◌, drop}
use Rattle.gp_text.specs.Spelling.{spelling}
use Rattle.gp_trace.specs.Printed.{event_lines}
use Rattle.gp_trace.proofs.printing.put_events.Given as goal

abbrev pub invariant-loop-event : goal.invariant-loop-event
invariant-loop-event l = l.out.items ++ spelling (event_lines (drop l.event-index l.events)) ≡ l.initial.out.items ++ spelling (event_lines l.events)
