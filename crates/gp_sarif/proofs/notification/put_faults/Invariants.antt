use Rattle.std.proofs.Common.{◌≡◌, ◌+◌, ◌++◌, drop, map}
use Rattle.gp_json.specs.Json.{elements_of, elements_text}
use Rattle.gp_sarif.specs.Log.{fault_value}
use Rattle.gp_sarif.proofs.notification.put_faults.Given as goal

abbrev pub invariant-loop-before : goal.invariant-loop-before
invariant-loop-before l = l.text.items ++ elements_text (l.before + 1) (elements_of (map fault_value (drop l.before l.faults))) ≡ l.initial.text.items ++ elements_text 1 (elements_of (map fault_value l.faults))
