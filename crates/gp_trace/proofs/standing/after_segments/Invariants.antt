-- The walk over the segments that are left, from here, is the walk over all.
use Rattle.std.proofs.Common.{◌≡◌, drop}
use Rattle.gp_trace.specs.Rules.{after_all}
use Rattle.gp_trace.specs.Trace.{in_order}
use Rattle.gp_trace.proofs.standing.after_segments.Given as goal

abbrev pub invariant-loop-segment : goal.invariant-loop-segment
invariant-loop-segment l = after_all l.standing (in_order (drop l.segment-index l.segments)) ≡ after_all l.initial.standing (in_order l.segments)
