use Rattle.std.proofs.Common.{length}
use Rattle.gp_instance.proofs.threads.+is_crowded.Given as goal

abbrev pub decreases-is_crowded : goal.decreases-is_crowded
decreases-is_crowded l = length l.sets.now
