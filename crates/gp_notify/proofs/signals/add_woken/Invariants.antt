use Rattle.std.proofs.Common.{◌≡◌, ◌+◌, ◌++◌, length, drop}
use Rattle.std.specs.Prelude.{flat_map}
use Rattle.gp_notify.specs.Signals.{wakes_of, woken}
use Rattle.gp_notify.proofs.signals.add_woken.Given as goal

abbrev pub invariant-loop-w : goal.invariant-loop-w
invariant-loop-w l = record {
  adds : l.into.clauses ++ flat_map (woken l.window) (drop l.w-index (wakes_of l.window)) ≡ l.initial.into.clauses ++ flat_map (woken l.window) (wakes_of l.window);
  lengths : length l.into.clauses + length (flat_map (woken l.window) (drop l.w-index (wakes_of l.window))) ≡ length l.initial.into.clauses + length (flat_map (woken l.window) (wakes_of l.window));
  before : l.into.before ≡ l.initial.into.before;
}
