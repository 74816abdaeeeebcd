use Rattle.gp_difference.specs.Anew.{IsNextBelow}
use Rattle.gp_difference.proofs.anew.next_below.Given as goal

abbrev pub invariant-loop-place : goal.invariant-loop-place
invariant-loop-place l = IsNextBelow l.places l.value l.place-index l.next
