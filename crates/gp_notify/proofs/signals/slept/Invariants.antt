use Rattle.std.proofs.Common.{◌≡◌, ◌+◌, ◌++◌, length, drop}
use Rattle.std.specs.Prelude.{flat_map}
use Rattle.gp_notify.specs.Signals.{between}
use Rattle.gp_notify.proofs.signals.slept.Given as goal

abbrev pub invariant-loop-g : goal.invariant-loop-g
invariant-loop-g l = record {
  adds : l.into.clauses ++ flat_map (between l.w l.s) (drop l.g-index l.signals) ≡ l.initial.into.clauses ++ flat_map (between l.w l.s) l.signals;
  lengths : length l.into.clauses + length (flat_map (between l.w l.s) (drop l.g-index l.signals)) ≡ length l.initial.into.clauses + length (flat_map (between l.w l.s) l.signals);
  before : l.into.before ≡ l.initial.into.before;
}
