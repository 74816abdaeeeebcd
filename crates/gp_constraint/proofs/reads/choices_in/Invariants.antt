use Rattle.std.proofs.Common.{◌≡◌, ◌++◌, drop}
use Rattle.std.specs.Prelude.{filter}
use Rattle.gp_constraint.specs.Reads.{is_choice}
use Rattle.gp_constraint.proofs.reads.choices_in.Given as goal

abbrev pub invariant-loop-w : goal.invariant-loop-w
invariant-loop-w l = l.kept ++ filter (is_choice l.r) (drop l.w-index l.writes) ≡ filter (is_choice l.r) l.writes
