use Rattle.std.proofs.Common.{◌≡◌, ◌+◌, ◌++◌, length, drop}
use Rattle.std.specs.Prelude.{flat_map}
use Rattle.gp_constraint.specs.Listed.{kept_from}
use Rattle.gp_constraint.proofs.reads.keep_later_all.Given as goal

abbrev pub invariant-loop-other : goal.invariant-loop-other
invariant-loop-other l = record {
  adds : l.clauses.clauses ++ flat_map (kept_from l.r) (drop l.other-index l.writes) ≡ l.initial.clauses.clauses ++ flat_map (kept_from l.r) l.writes;
  lengths : length l.clauses.clauses + length (flat_map (kept_from l.r) (drop l.other-index l.writes)) ≡ length l.initial.clauses.clauses + length (flat_map (kept_from l.r) l.writes);
  before : l.clauses.before ≡ l.initial.clauses.before;
}
