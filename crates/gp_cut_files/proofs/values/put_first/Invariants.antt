use Rattle.std.proofs.Common.{◌≡◌, ◌++◌, map}
use Rattle.gp_cut.specs.Cut.{first_value}
use Rattle.gp_cut_files.proofs.values.put_first.Given as goal

abbrev pub invariant-loop-variable : goal.invariant-loop-variable
invariant-loop-variable l = l.values ++ map first_value l.variable-iterator ≡ l.initial.values ++ map first_value l.first
