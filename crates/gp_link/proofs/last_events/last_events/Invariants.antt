use Rattle.std.proofs.Common.{◌≡◌, ◌+◌, ◌++◌, length, drop}
use Rattle.std.specs.Prelude.{flat_map}
use Rattle.gp_link.specs.LinkClauses.{ended_of}
use Rattle.gp_link.proofs.last_events.last_events.Given as goal

abbrev pub invariant-loop-p : goal.invariant-loop-p
invariant-loop-p l = record {
  adds : l.clauses.clauses ++ flat_map (ended_of l.window) (drop l.p-index l.points) ≡ l.initial.clauses.clauses ++ flat_map (ended_of l.window) l.points;
  lengths : length l.clauses.clauses + length (flat_map (ended_of l.window) (drop l.p-index l.points)) ≡ length l.initial.clauses.clauses + length (flat_map (ended_of l.window) l.points);
  before : l.clauses.before ≡ l.initial.clauses.before;
}
