use Rattle.std.proofs.Common.{◌≡◌, length}
use Rattle.gp_resume.specs.Old.{entries_named}
use Rattle.gp_resume.proofs.old.entries_named.Given as goal

abbrev pub invariant-loop-told : goal.invariant-loop-told
invariant-loop-told l = entries_named l.name l.records ≡ entries_named l.name l.left

abbrev pub decreases-loop-told : goal.decreases-loop-told
decreases-loop-told l = length l.left
