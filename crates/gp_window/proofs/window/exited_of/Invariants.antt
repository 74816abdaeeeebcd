use Rattle.std.proofs.Common.{◌≡◌, ◌++◌, drop}
use Rattle.gp_window.specs.WindowForm.{exited_of}
use Rattle.gp_window.proofs.window.exited_of.Given as goal

abbrev pub invariant-loop-trace : goal.invariant-loop-trace
invariant-loop-trace l =
    l.exited ++ exited_of l.k (drop l.trace-index l.traces) ≡ exited_of l.k l.traces
