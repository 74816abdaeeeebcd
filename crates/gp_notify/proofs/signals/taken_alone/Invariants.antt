use Rattle.std.proofs.Common.{◌≡◌, ◌+◌, ◌++◌, length, drop}
use Rattle.std.specs.Prelude.{flat_map}
use Rattle.gp_notify.specs.Signals.{not_both}
use Rattle.gp_notify.proofs.signals.taken_alone.Given as goal

abbrev pub invariant-loop-v : goal.invariant-loop-v
invariant-loop-v l = record {
  adds : l.into.clauses ++ flat_map (not_both l.g l.w) (drop l.v-index l.takers) ≡ l.initial.into.clauses ++ flat_map (not_both l.g l.w) l.takers;
  lengths : length l.into.clauses + length (flat_map (not_both l.g l.w) (drop l.v-index l.takers)) ≡ length l.initial.into.clauses + length (flat_map (not_both l.g l.w) l.takers);
  before : l.into.before ≡ l.initial.into.before;
}
