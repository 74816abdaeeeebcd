use Rattle.std.proofs.Common.{ℕ, ◌≡◌, ◌++◌, List}
use Rattle.gp_constraint.specs.Tables.{entry_at}
use Rattle.gp_stuck.proofs.Notes.{noted_at}
use Rattle.gp_stuck.proofs.noting.note_holds.Given as goal

abbrev pub invariant-loop-lock : goal.invariant-loop-lock
invariant-loop-lock l = (lock : List ℕ) → entry_at l.holders lock ++ noted_at l.id lock l.lock-iterator ≡ entry_at l.initial.holders lock ++ noted_at l.id lock l.held
