use Rattle.std.proofs.Common.{◌≡◌, drop}
use Rattle.std.specs.Prelude.{find}
use Rattle.gp_constraint.specs.Starts.{is_start_of}
use Rattle.gp_constraint.proofs.points.first_start.Given as goal

abbrev pub invariant-loop-p : goal.invariant-loop-p
invariant-loop-p l = find (is_start_of l.thread) (drop l.p-index l.points) ≡ find (is_start_of l.thread) l.points
