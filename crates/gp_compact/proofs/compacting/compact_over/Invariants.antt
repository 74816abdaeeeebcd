use Rattle.gp_compact.proofs.Windows.{AreMade}
use Rattle.gp_compact.proofs.compacting.compact_over.Given as goal

abbrev pub invariant-loop-told : goal.invariant-loop-told
invariant-loop-told l = AreMade l.initial.windows l.yielded l.windows l.made.items
