use Rattle.std.proofs.Common.{◌≡◌, ◌+◌, ◌++◌, length, drop}
use Rattle.std.specs.Prelude.{flat_map}
use Rattle.gp_link.specs.LinkClauses.{comes_last}
use Rattle.gp_link.proofs.last_writes.come_last.Given as goal

abbrev pub invariant-loop-w : goal.invariant-loop-w
invariant-loop-w l = record {
  adds : l.clauses.clauses ++ flat_map (comes_last l.writes) (drop l.w-index l.choices) ≡ l.initial.clauses.clauses ++ flat_map (comes_last l.writes) l.choices;
  lengths : length l.clauses.clauses + length (flat_map (comes_last l.writes) (drop l.w-index l.choices)) ≡ length l.initial.clauses.clauses + length (flat_map (comes_last l.writes) l.choices);
  before : l.clauses.before ≡ l.initial.clauses.before;
}
