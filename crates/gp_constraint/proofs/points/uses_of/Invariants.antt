use Rattle.std.proofs.Common.{◌≡◌, ℕ, List, take}
use Rattle.gp_constraint.specs.Tables.{entry_at, uses_of}
use Rattle.gp_constraint.proofs.points.uses_of.Given as goal

abbrev pub invariant-loop-p : goal.invariant-loop-p
invariant-loop-p l = (lock : List ℕ) → entry_at l.uses lock ≡ uses_of (take l.p-index l.points) lock
