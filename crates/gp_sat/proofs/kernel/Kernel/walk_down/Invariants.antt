use Rattle.std.proofs.Common.{◌≡◌, ◌≤◌, length, Contains}
use Rattle.std.specs.BinaryHeap.{heap_items}
use Rattle.gp_clause.specs.declared.lit.Lit.{Lit}
use Rattle.gp_sat.specs.declared.analysis.Stop.TheVariants.{FirstPoint}
use Rattle.gp_sat.specs.Marking.{IsMarked, IsLowest}
use Rattle.gp_sat.specs.Queueing.{AreListed, AreQueued}
use Rattle.gp_sat.specs.Walking.{IsWalked, IsSearched}
use Rattle.gp_sat.proofs.kernel.Kernel.walk_down.Given as goal

abbrev pub invariant-loop-next : goal.invariant-loop-next
invariant-loop-next l = record {
  within : l.place ≤ length l.self.trail;
  listed : AreListed l.marking.marks.items l.marking.marked.items;
  queued : AreQueued l.self l.place l.marking.marks.items (heap_items l.marking.places);
  walked : IsWalked l.self l.stop l.place l.marking.marks.items l.walk.lits.items l.walk.hints.items;
  started : (lit : Lit) → Contains l.conflict lit → IsMarked l.marking.marks.items lit.variable;
  lowest : IsLowest l.self l.marking.marks.items l.walk.lowest;
  searched : l.stop ≡ FirstPoint → IsSearched l.self l.conflict l.place l.marking.marks.items l.walk.lits.items;
}

abbrev pub decreases-loop-next : goal.decreases-loop-next
decreases-loop-next l = l.place
