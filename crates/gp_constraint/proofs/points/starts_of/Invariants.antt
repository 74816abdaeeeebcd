use Rattle.std.proofs.Common.{◌≡◌, ◌++◌, drop}
use Rattle.std.specs.Prelude.{filter}
use Rattle.gp_constraint.specs.Tables.{is_start}
use Rattle.gp_constraint.proofs.points.starts_of.Given as goal

abbrev pub invariant-loop-p : goal.invariant-loop-p
invariant-loop-p l = l.starts ++ filter (λ p. is_start p.action) (drop l.p-index l.points) ≡ filter (λ p. is_start p.action) l.points
