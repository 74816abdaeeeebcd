use Rattle.std.proofs.Common.{◌≡◌, ◌+◌, ◌++◌, length, drop}
use Rattle.std.specs.Prelude.{flat_map}
use Rattle.gp_constraint.specs.Joins.{join_of}
use Rattle.gp_constraint.proofs.joins.joins.Given as goal

abbrev pub invariant-loop-j : goal.invariant-loop-j
invariant-loop-j l = record {
  adds : l.clauses.clauses ++ flat_map (join_of l.window l.points) (drop l.j-index l.j-items) ≡ l.initial.clauses.clauses ++ flat_map (join_of l.window l.points) l.j-items;
  lengths : length l.clauses.clauses + length (flat_map (join_of l.window l.points) (drop l.j-index l.j-items)) ≡ length l.initial.clauses.clauses + length (flat_map (join_of l.window l.points) l.j-items);
  before : l.clauses.before ≡ l.initial.clauses.before;
}
