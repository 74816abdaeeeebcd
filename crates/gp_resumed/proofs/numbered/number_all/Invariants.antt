use Rattle.std.proofs.Common.{length}
use Rattle.gp_resumed.proofs.Numbering.{IsNumberedTo}
use Rattle.gp_resumed.proofs.numbered.number_all.Given as goal

abbrev pub decreases-loop-property : goal.decreases-loop-property
decreases-loop-property l = length l.left

abbrev pub invariant-loop-property : goal.invariant-loop-property
invariant-loop-property l = IsNumberedTo l.properties l.left l.number l.numbered.items
