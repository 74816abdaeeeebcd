use Rattle.std.proofs.Common.{◌≡◌, drop}
use Rattle.gp_window.specs.Holders.{held_after_window}
use Rattle.gp_window.proofs.holders.Holders.pass.Given as goal

abbrev pub invariant-loop-trace : goal.invariant-loop-trace
invariant-loop-trace l =
    held_after_window l.before l.holders (drop l.trace-index l.traces) ≡ held_after_window l.before l.initial.holders l.traces
