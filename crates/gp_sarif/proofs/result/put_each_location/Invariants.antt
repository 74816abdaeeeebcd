use Rattle.std.proofs.Common.{◌≡◌, ◌++◌, drop, map}
use Rattle.gp_json.specs.Json.{elements_of, elements_text}
use Rattle.gp_sarif.specs.Locations.{location_value}
use Rattle.gp_sarif.proofs.result.put_each_location.Given as goal

abbrev pub invariant-loop-before : goal.invariant-loop-before
invariant-loop-before l = l.text.items ++ elements_text l.before (elements_of (map (location_value l.places l.window) (drop l.before l.events))) ≡ l.initial.text.items ++ elements_text 0 (elements_of (map (location_value l.places l.window) l.events))
