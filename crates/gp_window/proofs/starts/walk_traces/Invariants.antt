use Rattle.std.proofs.Common.{◌≡◌, drop}
use Rattle.gp_window.specs.Starts.{after_traces}
use Rattle.gp_window.proofs.starts.walk_traces.Given as goal

abbrev pub invariant-loop-trace : goal.invariant-loop-trace
invariant-loop-trace l =
    after_traces l.threads l.roots l.started (drop l.trace-index l.traces) ≡ after_traces l.threads l.roots l.initial.started l.traces
