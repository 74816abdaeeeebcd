use Rattle.std.proofs.Common.{◌≡◌, ◌++◌, drop, map}
use Rattle.gp_json.specs.Json.{elements_of, elements_text}
use Rattle.gp_values.specs.Events.{event_value}
use Rattle.gp_values.proofs.instance.put_each_event.Given as goal

abbrev pub invariant-loop-before : goal.invariant-loop-before
invariant-loop-before l = l.text.items ++ elements_text l.before (elements_of (map (event_value l.places l.window) (drop l.before l.events))) ≡ l.initial.text.items ++ elements_text 0 (elements_of (map (event_value l.places l.window) l.events))
