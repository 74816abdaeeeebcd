use Rattle.std.proofs.Common.{◌≡◌, drop}
use Rattle.std.specs.Prelude.{find}
use Rattle.gp_constraint.specs.Joins.{is_last_of}
use Rattle.gp_constraint.proofs.joins.first_last.Given as goal

abbrev pub invariant-loop-p : goal.invariant-loop-p
invariant-loop-p l = find (is_last_of l.window l.thread) (drop l.p-index l.points) ≡ find (is_last_of l.window l.thread) l.points
