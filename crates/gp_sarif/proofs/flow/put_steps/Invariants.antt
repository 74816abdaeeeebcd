use Rattle.std.proofs.Common.{◌≡◌, ◌+◌, ◌++◌, drop, filter, map}
use Rattle.std.specs.List.{enumerate_from}
use Rattle.gp_json.specs.Json.{elements_of, elements_text}
use Rattle.gp_sarif.specs.Flows.{is_step_of, step_value, steps_of}
use Rattle.gp_sarif.proofs.flow.put_steps.Given as goal

abbrev pub invariant-loop-behind : goal.invariant-loop-behind
invariant-loop-behind l =
    l.text.items ++ elements_text l.before (elements_of (map (step_value l.places l.window) (filter (is_step_of l.thread) (enumerate_from (l.behind + 1) (drop l.behind l.schedule)))))
    ≡ l.initial.text.items ++ elements_text 0 (elements_of (map (step_value l.places l.window) (steps_of l.thread l.schedule)))
