use Rattle.std.proofs.Common.{◌≡◌, ◌+◌, ◌++◌, length, drop}
use Rattle.std.specs.Prelude.{flat_map}
use Rattle.gp_constraint.specs.SectionTables.{sections_between}
use Rattle.gp_constraint.proofs.sections.sections_with.Given as goal

abbrev pub invariant-loop-c : goal.invariant-loop-c
invariant-loop-c l = record {
  adds : l.clauses.clauses ++ flat_map (sections_between l.a) (drop l.c-index l.others) ≡ l.initial.clauses.clauses ++ flat_map (sections_between l.a) l.others;
  lengths : length l.clauses.clauses + length (flat_map (sections_between l.a) (drop l.c-index l.others)) ≡ length l.initial.clauses.clauses + length (flat_map (sections_between l.a) l.others);
  before : l.clauses.before ≡ l.initial.clauses.before;
}
