use Rattle.gp_derivation.proofs.Narrowing.{IsNarrowed}
use Rattle.gp_derivation.proofs.reach.descend_within.Given as goal

abbrev pub invariant-loop-place : goal.invariant-loop-place
invariant-loop-place l = IsNarrowed l.problem l.log l.last l.bound l.places.items l.todo.keys l.room

abbrev pub decreases-loop-place : goal.decreases-loop-place
decreases-loop-place l = l.bound
