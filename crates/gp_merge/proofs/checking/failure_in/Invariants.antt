use Rattle.std.proofs.Common.{◌≡◌, drop}
use Rattle.gp_merge.specs.Reaching.{Reach}
use Rattle.gp_merge.proofs.checking.failure_in.Given as goal

abbrev pub invariant-loop-part : goal.invariant-loop-part
invariant-loop-part l = (l.place ≡ l.part-index) × Reach (drop l.part-index l.parts) l.failure.window
