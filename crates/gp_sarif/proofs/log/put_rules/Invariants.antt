use Rattle.std.proofs.Common.{◌≡◌, ◌++◌, drop, map}
use Rattle.gp_json.specs.Json.{elements_of, elements_text}
use Rattle.gp_sarif.specs.Log.{rule_value}
use Rattle.gp_sarif.proofs.log.put_rules.Given as goal

abbrev pub invariant-loop-before : goal.invariant-loop-before
invariant-loop-before l = l.text.items ++ elements_text l.before (elements_of (map rule_value (drop l.before l.properties))) ≡ l.initial.text.items ++ elements_text 0 (elements_of (map rule_value l.properties))
