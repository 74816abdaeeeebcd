use Rattle.std.proofs.Common.{◌≡◌, ◌+◌, ◌++◌, length, drop}
use Rattle.std.specs.Prelude.{flat_map}
use Rattle.gp_constraint.specs.Reads.{kept_apart}
use Rattle.gp_constraint.proofs.reads.keep_apart_all.Given as goal

abbrev pub invariant-loop-other : goal.invariant-loop-other
invariant-loop-other l = record {
  adds : l.clauses.clauses ++ flat_map (kept_apart l.r l.w) (drop l.other-index l.rivals) ≡ l.initial.clauses.clauses ++ flat_map (kept_apart l.r l.w) l.rivals;
  lengths : length l.clauses.clauses + length (flat_map (kept_apart l.r l.w) (drop l.other-index l.rivals)) ≡ length l.initial.clauses.clauses + length (flat_map (kept_apart l.r l.w) l.rivals);
  before : l.clauses.before ≡ l.initial.clauses.before;
}
