use Rattle.std.proofs.Common.{◌≡◌, ◌++◌, drop, map}
use Rattle.gp_json.specs.Json.{elements_of, elements_text}
use Rattle.gp_tell.specs.Naming.{name_by}
use Rattle.gp_values.specs.Reasons.{step_value}
use Rattle.gp_values.proofs.reason.put_each_step.Given as goal

abbrev pub invariant-loop-before : goal.invariant-loop-before
invariant-loop-before l = l.text.items ++ elements_text l.before (elements_of (map (step_value (name_by l.naming)) (drop l.before l.steps))) ≡ l.initial.text.items ++ elements_text 0 (elements_of (map (step_value (name_by l.naming)) l.steps))
