use Rattle.std.proofs.Common.{◌≡◌, ℕ, List, take}
use Rattle.std.specs.Prelude.{filter}
use Rattle.gp_constraint.specs.Tables.{entry_at, writes_to}
use Rattle.gp_constraint.proofs.points.writes_of.Given as goal

abbrev pub invariant-loop-p : goal.invariant-loop-p
invariant-loop-p l = (variable : List ℕ) → entry_at l.writes variable ≡ filter (λ p. writes_to variable p.action) (take l.p-index l.points)
