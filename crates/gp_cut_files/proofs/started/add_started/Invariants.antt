use Rattle.std.proofs.Common.{◌≡◌, ◌++◌, drop}
use Rattle.gp_window.specs.WindowForm.{started_in}
use Rattle.gp_cut_files.proofs.started.add_started.Given as goal

abbrev pub invariant-loop-trace : goal.invariant-loop-trace
invariant-loop-trace l =
    l.started ++ started_in l.before (drop l.trace-index l.traces) ≡ l.initial.started ++ started_in l.before l.traces
