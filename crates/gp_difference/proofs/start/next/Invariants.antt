use Rattle.std.proofs.Common.{◌≤◌, length}
use Rattle.gp_difference.proofs.start.next.Given as goal

abbrev pub invariant-loop-left : goal.invariant-loop-left
invariant-loop-left l = l.left ≤ length l.waits

abbrev pub decreases-loop-left : goal.decreases-loop-left
decreases-loop-left l = l.left
