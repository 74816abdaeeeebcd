use Rattle.std.proofs.Common.{◌≡◌, ◌+◌, ◌++◌, length, drop}
use Rattle.std.specs.Prelude.{flat_map}
use Rattle.gp_link.specs.LinkClauses.{linked_at}
use Rattle.gp_link.proofs.last_writes.last_writes.Given as goal

abbrev pub invariant-loop-variable : goal.invariant-loop-variable
invariant-loop-variable l = record {
  adds : l.clauses.clauses ++ flat_map (linked_at l.window l.next l.points) (drop l.variable-index l.variables) ≡ l.initial.clauses.clauses ++ flat_map (linked_at l.window l.next l.points) l.variables;
  lengths : length l.clauses.clauses + length (flat_map (linked_at l.window l.next l.points) (drop l.variable-index l.variables)) ≡ length l.initial.clauses.clauses + length (flat_map (linked_at l.window l.next l.points) l.variables);
  before : l.clauses.before ≡ l.initial.clauses.before;
}
