use Rattle.std.proofs.Common.{◌≡◌, ◌+◌, ◌++◌, length, drop}
use Rattle.std.specs.Prelude.{flat_map}
use Rattle.gp_link.specs.LinkClauses.{kept_before}
use Rattle.gp_link.proofs.last_writes.comes_last.Given as goal

abbrev pub invariant-loop-other : goal.invariant-loop-other
invariant-loop-other l = record {
  adds : l.clauses.clauses ++ flat_map (kept_before l.w) (drop l.other-index l.writes) ≡ l.initial.clauses.clauses ++ flat_map (kept_before l.w) l.writes;
  lengths : length l.clauses.clauses + length (flat_map (kept_before l.w) (drop l.other-index l.writes)) ≡ length l.initial.clauses.clauses + length (flat_map (kept_before l.w) l.writes);
  before : l.clauses.before ≡ l.initial.clauses.before;
}
