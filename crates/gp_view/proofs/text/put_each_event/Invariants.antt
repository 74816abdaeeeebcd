use Rattle.std.proofs.Common.{◌≡◌, ◌++◌, drop, map}
use Rattle.gp_text.specs.Spelling.{spelling}
use Rattle.gp_view.specs.Text.{event_line}
use Rattle.gp_view.proofs.text.put_each_event.Given as goal

abbrev pub invariant-loop-id : goal.invariant-loop-id
invariant-loop-id l = l.text.items ++ spelling (map (event_line l.places l.window) (drop l.id-index l.events)) ≡ l.initial.text.items ++ spelling (map (event_line l.places l.window) l.events)
