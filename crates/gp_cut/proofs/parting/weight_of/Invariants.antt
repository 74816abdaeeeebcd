use Rattle.std.proofs.Common.{◌≡◌, ◌*◌, ◌≤◌, length, sum_by, take}
use Rattle.gp_window.specs.Holders.{segment_after}
use Rattle.gp_cut.proofs.parting.weight_of.Given as goal

abbrev pub invariant-loop-trace : goal.invariant-loop-trace
invariant-loop-trace l = record {
  value : l.events ≡ sum_by (λ trace. length (segment_after l.before trace)) (take l.trace-index l.trace-items);
  small : l.events ≤ l.trace-index * 4294967295;
}
