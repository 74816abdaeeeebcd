use Rattle.std.proofs.Common.{◌≡◌, ◌++◌, drop}
use Rattle.std.specs.List.{flat_map}
use Rattle.gp_text.specs.Spelling.{spelling}
use Rattle.gp_writer.specs.Steps.{step_lines}
use Rattle.gp_writer.proofs.steps.put_each_step.Given as goal

abbrev pub invariant-loop-step : goal.invariant-loop-step
invariant-loop-step l = l.text.items ++ spelling (flat_map step_lines (drop l.step-index l.steps)) ≡ l.initial.text.items ++ spelling (flat_map step_lines l.steps)
