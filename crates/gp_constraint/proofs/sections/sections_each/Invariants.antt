use Rattle.std.proofs.Common.{◌≡◌, ◌+◌, ◌++◌, length, drop}
use Rattle.std.specs.Prelude.{flat_map}
use Rattle.gp_constraint.specs.SectionTables.{sections_between, sections_on}
use Rattle.gp_constraint.proofs.sections.sections_each.Given as goal

abbrev pub invariant-loop-a : goal.invariant-loop-a
invariant-loop-a l = record {
  adds : l.clauses.clauses ++ flat_map (λ a. flat_map (sections_between a) (sections_on a.lock l.all)) (drop l.a-index l.all) ≡ l.initial.clauses.clauses ++ flat_map (λ a. flat_map (sections_between a) (sections_on a.lock l.all)) l.all;
  lengths : length l.clauses.clauses + length (flat_map (λ a. flat_map (sections_between a) (sections_on a.lock l.all)) (drop l.a-index l.all)) ≡ length l.initial.clauses.clauses + length (flat_map (λ a. flat_map (sections_between a) (sections_on a.lock l.all)) l.all);
  before : l.clauses.before ≡ l.initial.clauses.before;
}
