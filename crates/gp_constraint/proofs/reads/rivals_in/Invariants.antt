use Rattle.std.proofs.Common.{◌≡◌, ◌++◌, drop}
use Rattle.std.specs.Prelude.{filter}
use Rattle.gp_constraint.specs.Reads.{is_rival}
use Rattle.gp_constraint.proofs.reads.rivals_in.Given as goal

abbrev pub invariant-loop-w : goal.invariant-loop-w
invariant-loop-w l = l.kept ++ filter (λ w. is_rival l.r.action w.action) (drop l.w-index l.writes) ≡ filter (λ w. is_rival l.r.action w.action) l.writes
