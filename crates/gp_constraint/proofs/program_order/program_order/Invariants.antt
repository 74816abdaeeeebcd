use Rattle.std.proofs.Common.{◌≡◌, ◌+◌, ◌++◌, length, drop}
use Rattle.std.specs.Prelude.{flat_map}
use Rattle.gp_constraint.specs.ProgramOrder.{linked}
use Rattle.gp_constraint.proofs.program_order.program_order.Given as goal

abbrev pub invariant-loop-f : goal.invariant-loop-f
invariant-loop-f l = record {
  adds : l.clauses.clauses ++ flat_map linked (drop l.f-index l.points) ≡ l.initial.clauses.clauses ++ flat_map linked l.points;
  lengths : length l.clauses.clauses + length (flat_map linked (drop l.f-index l.points)) ≡ length l.initial.clauses.clauses + length (flat_map linked l.points);
  before : l.clauses.before ≡ l.initial.clauses.before;
}
