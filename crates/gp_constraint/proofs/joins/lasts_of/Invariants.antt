use Rattle.std.proofs.Common.{◌≡◌, ◌++◌, drop}
use Rattle.std.specs.Prelude.{filter}
use Rattle.gp_constraint.specs.Lasts.{is_last}
use Rattle.gp_constraint.proofs.joins.lasts_of.Given as goal

abbrev pub invariant-loop-p : goal.invariant-loop-p
invariant-loop-p l = l.lasts ++ filter (is_last l.window) (drop l.p-index l.points) ≡ filter (is_last l.window) l.points
