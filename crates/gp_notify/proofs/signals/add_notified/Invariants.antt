use Rattle.std.proofs.Common.{◌≡◌, ◌+◌, ◌++◌, length, drop}
use Rattle.std.specs.Prelude.{flat_map}
use Rattle.gp_notify.specs.Signals.{notified, notifies_of}
use Rattle.gp_notify.proofs.signals.add_notified.Given as goal

abbrev pub invariant-loop-g : goal.invariant-loop-g
invariant-loop-g l = record {
  adds : l.into.clauses ++ flat_map (notified l.window) (drop l.g-index (notifies_of l.window)) ≡ l.initial.into.clauses ++ flat_map (notified l.window) (notifies_of l.window);
  lengths : length l.into.clauses + length (flat_map (notified l.window) (drop l.g-index (notifies_of l.window))) ≡ length l.initial.into.clauses + length (flat_map (notified l.window) (notifies_of l.window));
  before : l.into.before ≡ l.initial.into.before;
}
