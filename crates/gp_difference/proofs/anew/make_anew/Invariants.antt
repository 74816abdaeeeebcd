use Rattle.gp_difference.specs.Anew.{AreSqueezed, below_count}
use Rattle.gp_difference.proofs.anew.make_anew.Given as goal

abbrev pub invariant-loop-next : goal.invariant-loop-next
invariant-loop-next l = AreSqueezed l.places l.labels l.value l.level

abbrev pub decreases-loop-next : goal.decreases-loop-next
decreases-loop-next l = below_count l.places l.value
