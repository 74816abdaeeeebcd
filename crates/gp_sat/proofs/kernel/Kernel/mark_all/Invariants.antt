use Rattle.std.proofs.Common.{◌≡◌, ℕ, length, take}
use Rattle.std.specs.BinaryHeap.{heap_items}
use Rattle.gp_sat.specs.Standing.{Each}
use Rattle.gp_sat.specs.Marking.{Marks}
use Rattle.gp_sat.specs.Queueing.{AreListed, AreQueued, IsMarkedOrBefore}
use Rattle.gp_sat.proofs.kernel.Kernel.mark_all.Given as goal

abbrev pub invariant-loop-lit : goal.invariant-loop-lit
invariant-loop-lit l = record {
  listed : AreListed l.marking.marks.items l.marking.marked.items;
  size : length l.marking.marks.items ≡ length l.self.values;
  marked : Marks l.initial.marking.marks.items l.marking.marks.items (take l.lit-index l.lits);
  queued : (bound : ℕ) → Each (IsMarkedOrBefore l.self bound l.initial.marking.marks.items) l.lits → AreQueued l.self bound l.initial.marking.marks.items (heap_items l.initial.marking.places)
      → AreQueued l.self bound l.marking.marks.items (heap_items l.marking.places);
}
