use Rattle.std.proofs.Common.{◌≡◌, length}
use Rattle.gp_resume.proofs.Listed.{KeptSoFar}
use Rattle.gp_resume.proofs.keeping.kept_by.Given as goal

abbrev pub invariant-loop-property : goal.invariant-loop-property
invariant-loop-property l = (l.test ≡ l.initial.test) × KeptSoFar l.told l.initial.test.window l.properties l.left l.number l.kept

abbrev pub decreases-loop-property : goal.decreases-loop-property
decreases-loop-property l = length l.left
