use Rattle.std.proofs.Common.{◌≡◌, ◌+◌, ◌++◌, length, drop}
use Rattle.std.specs.Prelude.{flat_map}
use Rattle.gp_constraint.specs.Listed.{seen}
use Rattle.gp_constraint.proofs.reads.seen_each.Given as goal

abbrev pub invariant-loop-w : goal.invariant-loop-w
invariant-loop-w l = record {
  adds : l.clauses.clauses ++ flat_map (seen l.rivals l.r) (drop l.w-index l.choices) ≡ l.initial.clauses.clauses ++ flat_map (seen l.rivals l.r) l.choices;
  lengths : length l.clauses.clauses + length (flat_map (seen l.rivals l.r) (drop l.w-index l.choices)) ≡ length l.initial.clauses.clauses + length (flat_map (seen l.rivals l.r) l.choices);
  before : l.clauses.before ≡ l.initial.clauses.before;
}
