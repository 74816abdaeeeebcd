use Rattle.std.proofs.Common.{◌≡◌, ◌+◌, ◌++◌, length, drop}
use Rattle.std.specs.Prelude.{flat_map}
use Rattle.gp_constraint.specs.Reads.{choices_of}
use Rattle.gp_constraint.proofs.reads.reads.Given as goal

abbrev pub invariant-loop-r : goal.invariant-loop-r
invariant-loop-r l = record {
  adds : l.clauses.clauses ++ flat_map (choices_of l.window l.points) (drop l.r-index l.r-items) ≡ l.initial.clauses.clauses ++ flat_map (choices_of l.window l.points) l.r-items;
  lengths : length l.clauses.clauses + length (flat_map (choices_of l.window l.points) (drop l.r-index l.r-items)) ≡ length l.initial.clauses.clauses + length (flat_map (choices_of l.window l.points) l.r-items);
  before : l.clauses.before ≡ l.initial.clauses.before;
}
