use Rattle.std.proofs.Common.{length}
use Rattle.gp_window.specs.Ahead.{AreAhead}
use Rattle.gp_notified.proofs.Gathered.{IsUnderWay}
use Rattle.gp_notified.proofs.unpaired.unpaired_ahead.Given as goal

abbrev pub decreases-loop-own : goal.decreases-loop-own
decreases-loop-own l = length l.left

abbrev pub invariant-loop-own : goal.invariant-loop-own
invariant-loop-own l = record {
  ahead : AreAhead l.recording l.windows;
  way : IsUnderWay l.recording l.unpaired l.left;
}
