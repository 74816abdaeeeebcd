use Rattle.std.proofs.Common.{◌≡◌, length}
use Rattle.gp_resume.proofs.Stayed.{KeepsSoFar}
use Rattle.gp_resume.proofs.keeping.standing.Given as goal

abbrev pub invariant-loop-instance : goal.invariant-loop-instance
invariant-loop-instance l = (l.test ≡ l.initial.test) × KeepsSoFar l.initial.test l.property l.listed l.left l.fn.answers l.kept

abbrev pub decreases-loop-instance : goal.decreases-loop-instance
decreases-loop-instance l = length l.left
