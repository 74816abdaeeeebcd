use Rattle.std.proofs.Common.{◌≡◌, ◌+◌, ◌++◌, length, drop}
use Rattle.std.specs.Prelude.{flat_map}
use Rattle.gp_notify.specs.Signals.{not_both}
use Rattle.gp_notify.proofs.signals.taken_once.Given as goal

abbrev pub invariant-loop-w : goal.invariant-loop-w
invariant-loop-w l = record {
  adds : l.into.clauses ++ flat_map (λ w. flat_map (not_both l.g w) l.takers) (drop l.w-index l.takers) ≡ l.initial.into.clauses ++ flat_map (λ w. flat_map (not_both l.g w) l.takers) l.takers;
  lengths : length l.into.clauses + length (flat_map (λ w. flat_map (not_both l.g w) l.takers) (drop l.w-index l.takers)) ≡ length l.initial.into.clauses + length (flat_map (λ w. flat_map (not_both l.g w) l.takers) l.takers);
  before : l.into.before ≡ l.initial.into.before;
}
