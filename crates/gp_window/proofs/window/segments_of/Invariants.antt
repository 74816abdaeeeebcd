use Rattle.std.proofs.Common.{◌≡◌, ◌++◌, drop, map}
use Rattle.gp_window.specs.Holders.{segment_after}
use Rattle.gp_window.proofs.window.segments_of.Given as goal

abbrev pub invariant-loop-trace : goal.invariant-loop-trace
invariant-loop-trace l =
    l.segments ++ map (segment_after l.before) (drop l.trace-index l.traces) ≡ map (segment_after l.before) l.traces
