use Rattle.std.proofs.Common.{◌≡◌, ◌+◌, ◌++◌, length}
use Rattle.std.specs.Prelude.{flat_map}
use Rattle.gp_constraint.specs.HeldLocks.{held_apart}
use Rattle.gp_window.specs.WindowForm.{held_at_start}
use Rattle.gp_constraint.proofs.held_locks.held_locks.Given as goal

abbrev pub invariant-loop-holder : goal.invariant-loop-holder
invariant-loop-holder l = record {
  adds : l.clauses.clauses ++ flat_map (λ hold. flat_map (held_apart l.points hold) l.points) l.holder-iterator
      ≡ l.initial.clauses.clauses ++ flat_map (λ hold. flat_map (held_apart l.points hold) l.points) (held_at_start l.window);
  lengths : length l.clauses.clauses + length (flat_map (λ hold. flat_map (held_apart l.points hold) l.points) l.holder-iterator)
      ≡ length l.initial.clauses.clauses + length (flat_map (λ hold. flat_map (held_apart l.points hold) l.points) (held_at_start l.window));
  before : l.clauses.before ≡ l.initial.clauses.before;
}
