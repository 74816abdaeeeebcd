use Rattle.std.proofs.Common.{◌≡◌, ◌+◌, ◌++◌, length, drop}
use Rattle.std.specs.Prelude.{flat_map}
use Rattle.gp_constraint.specs.Starts.{start_of}
use Rattle.gp_constraint.proofs.starts.starts.Given as goal

abbrev pub invariant-loop-f : goal.invariant-loop-f
invariant-loop-f l = record {
  adds : l.clauses.clauses ++ flat_map (start_of l.window l.points) (drop l.f-index l.f-items) ≡ l.initial.clauses.clauses ++ flat_map (start_of l.window l.points) l.f-items;
  lengths : length l.clauses.clauses + length (flat_map (start_of l.window l.points) (drop l.f-index l.f-items)) ≡ length l.initial.clauses.clauses + length (flat_map (start_of l.window l.points) l.f-items);
  before : l.clauses.before ≡ l.initial.clauses.before;
}
