use Rattle.std.proofs.Common.{◌≡◌, map}
use Rattle.std.specs.Vec.Iter.{into_iter_items}
use Rattle.gp_sharing.specs.Compacted.{entry_by, steps_in}
use Rattle.gp_sharing.specs.Moving.{RoomFor, compacted_steps}
use Rattle.gp_compact.proofs.rewriting.rewrite_entries.Given as goal

abbrev pub invariant-loop-entry : goal.invariant-loop-entry
invariant-loop-entry l = record {
  made : l.made.items ≡ map (entry_by (compacted_steps l.sizes l.list)) l.yielded;
  room : RoomFor l.sizes l.list (steps_in (into_iter_items l.entry-iterator));
}
