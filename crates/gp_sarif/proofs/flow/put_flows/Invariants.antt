use Rattle.std.proofs.Common.{◌≡◌, ◌+◌, ◌-◌, ◌++◌, filter, length, map}
use Rattle.gp_json.specs.Json.{elements_of, elements_text}
use Rattle.gp_window.specs.WindowForm.{numbers_from}
use Rattle.gp_sarif.specs.Flows.{acts, flow_value, flow_values}
use Rattle.gp_sarif.proofs.flow.put_flows.Given as goal

abbrev pub invariant-loop-behind : goal.invariant-loop-behind
invariant-loop-behind l =
    l.text.items ++ elements_text l.before (elements_of (map (flow_value l.places l.window l.schedule) (filter (acts l.schedule) (numbers_from (l.behind + 1) (length l.window.segments - l.behind)))))
    ≡ l.initial.text.items ++ elements_text 0 (elements_of (flow_values l.places l.window l.schedule))
