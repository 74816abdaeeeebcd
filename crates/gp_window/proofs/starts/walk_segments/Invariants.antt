use Rattle.std.proofs.Common.{◌≡◌, drop}
use Rattle.gp_window.specs.Starts.{after_segments}
use Rattle.gp_window.proofs.starts.walk_segments.Given as goal

abbrev pub invariant-loop-segment : goal.invariant-loop-segment
invariant-loop-segment l =
    after_segments l.threads l.roots l.started (drop l.segment-index l.segments) ≡ after_segments l.threads l.roots l.initial.started l.segments
