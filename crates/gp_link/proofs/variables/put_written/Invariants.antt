use Rattle.std.proofs.Common.{◌≡◌, drop}
use Rattle.gp_link.specs.Variables.{with_written}
use Rattle.gp_link.proofs.variables.put_written.Given as goal

abbrev pub invariant-loop-p : goal.invariant-loop-p
invariant-loop-p l = with_written l.names (drop l.p-index l.points) ≡ with_written l.initial.names l.points
