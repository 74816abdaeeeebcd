use Rattle.std.proofs.Common.{◌≡◌}
use Rattle.std.specs.Map.{keys_of}
use Rattle.gp_link.specs.Variables.{with_names}
use Rattle.gp_link.proofs.variables.put_valued.Given as goal

abbrev pub invariant-loop-variable : goal.invariant-loop-variable
invariant-loop-variable l = with_names l.names (keys_of l.variable-iterator) ≡ with_names l.initial.names (keys_of l.window.start_values)
