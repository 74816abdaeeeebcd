use Rattle.std.proofs.Common.{◌≡◌, map}
use Rattle.std.specs.Vec.Iter.{into_iter_items}
use Rattle.gp_report.specs.Entries.{entries_among}
use Rattle.gp_sharing.specs.Compacted.{property_by, steps_in}
use Rattle.gp_sharing.specs.Moving.{RoomFor, compacted_steps}
use Rattle.gp_compact.proofs.rewriting.rewrite_properties.Given as goal

abbrev pub invariant-loop-property : goal.invariant-loop-property
invariant-loop-property l = record {
  made : l.made.items ≡ map (property_by (compacted_steps l.sizes l.list)) l.yielded;
  room : RoomFor l.sizes l.list (steps_in (entries_among (into_iter_items l.property-iterator)));
}
