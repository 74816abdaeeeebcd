use Rattle.gp_derivation.proofs.Descending.{IsDescended}
use Rattle.gp_derivation.proofs.reach.descend.Given as goal

abbrev pub invariant-loop-place : goal.invariant-loop-place
invariant-loop-place l = IsDescended l.base_clauses l.log l.hints l.bound l.places.items l.todo.keys

abbrev pub decreases-loop-place : goal.decreases-loop-place
decreases-loop-place l = l.bound
