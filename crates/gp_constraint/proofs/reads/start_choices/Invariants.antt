use Rattle.std.proofs.Common.{◌≡◌, ◌+◌, ◌++◌, length, drop}
use Rattle.std.specs.Prelude.{flat_map}
use Rattle.gp_constraint.specs.Reads.{kept_later}
use Rattle.gp_constraint.proofs.reads.start_choices.Given as goal

abbrev pub invariant-loop-r : goal.invariant-loop-r
invariant-loop-r l = record {
  adds : l.clauses.clauses ++ flat_map (λ r. flat_map (kept_later l.window r) l.points) (drop l.r-index l.r-items) ≡ l.initial.clauses.clauses ++ flat_map (λ r. flat_map (kept_later l.window r) l.points) l.r-items;
  lengths : length l.clauses.clauses + length (flat_map (λ r. flat_map (kept_later l.window r) l.points) (drop l.r-index l.r-items)) ≡ length l.initial.clauses.clauses + length (flat_map (λ r. flat_map (kept_later l.window r) l.points) l.r-items);
  before : l.clauses.before ≡ l.initial.clauses.before;
}
