use Rattle.std.proofs.Common.{◌≡◌, ◌++◌, drop, map}
use Rattle.gp_instance.specs.Region.{ends_of}
use Rattle.gp_instance.proofs.segments.all_ends.Given as goal

abbrev pub invariant-loop-segment : goal.invariant-loop-segment
invariant-loop-segment l = l.ends ++ map ends_of (drop l.segment-index l.segments) ≡ map ends_of l.segments
