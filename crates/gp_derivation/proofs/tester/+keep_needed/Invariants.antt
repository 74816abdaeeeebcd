use Rattle.std.proofs.Common.{length}
use Rattle.gp_derivation.proofs.tester.+keep_needed.Given as goal

abbrev pub decreases-keep_needed : goal.decreases-keep_needed
decreases-keep_needed l = length l.candidates.now
