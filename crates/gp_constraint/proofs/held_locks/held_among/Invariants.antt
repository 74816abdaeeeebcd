use Rattle.std.proofs.Common.{◌≡◌, ◌+◌, ◌++◌, length, drop}
use Rattle.std.specs.Prelude.{flat_map}
use Rattle.gp_constraint.specs.HeldUses.{held_with}
use Rattle.gp_constraint.proofs.held_locks.held_among.Given as goal

abbrev pub invariant-loop-c : goal.invariant-loop-c
invariant-loop-c l = record {
  adds : l.clauses.clauses ++ flat_map (held_with l.end l.hold) (drop l.c-index l.uses) ≡ l.initial.clauses.clauses ++ flat_map (held_with l.end l.hold) l.uses;
  lengths : length l.clauses.clauses + length (flat_map (held_with l.end l.hold) (drop l.c-index l.uses)) ≡ length l.initial.clauses.clauses + length (flat_map (held_with l.end l.hold) l.uses);
  before : l.clauses.before ≡ l.initial.clauses.before;
}
