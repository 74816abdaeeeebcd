use Rattle.std.proofs.Common.{◌≡◌, ◌++◌, drop, map}
use Rattle.gp_json.specs.Json.{elements_of, elements_text}
use Rattle.gp_values.specs.Overview.{property_value}
use Rattle.gp_values.proofs.overview.put_properties.Given as goal

abbrev pub invariant-loop-before : goal.invariant-loop-before
invariant-loop-before l = l.text.items ++ elements_text l.before (elements_of (map (property_value l.windows) (drop l.before l.properties))) ≡ l.initial.text.items ++ elements_text 0 (elements_of (map (property_value l.windows) l.properties))
