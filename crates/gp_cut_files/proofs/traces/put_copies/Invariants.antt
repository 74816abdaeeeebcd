use Rattle.std.proofs.Common.{◌≡◌, ◌++◌, drop}
use Rattle.gp_cut_files.proofs.traces.put_copies.Given as goal

abbrev pub invariant-loop-segment : goal.invariant-loop-segment
invariant-loop-segment l = l.segments ++ drop l.segment-index l.more ≡ l.initial.segments ++ l.more
