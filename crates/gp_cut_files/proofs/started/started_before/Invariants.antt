use Rattle.std.proofs.Common.{◌≡◌}
use Rattle.gp_window.specs.WindowForm.{started_before}
use Rattle.gp_cut_files.proofs.started.started_before.Given as goal

abbrev pub invariant-loop-passed : goal.invariant-loop-passed
invariant-loop-passed l = l.started ≡ started_before l.passed l.traces
