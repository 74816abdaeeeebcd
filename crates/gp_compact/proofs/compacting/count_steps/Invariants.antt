use Rattle.std.proofs.Common.{◌≡◌, ◌+◌, min, take}
use Rattle.gp_report.specs.Entries.{entries_among}
use Rattle.gp_sharing.specs.Compacted.{steps_in}
use Rattle.gp_compact.proofs.compacting.count_steps.Given as goal

abbrev pub invariant-loop-property : goal.invariant-loop-property
invariant-loop-property l = l.count ≡ min (l.fn.count + steps_in (entries_among (take l.property-index l.property-items))) 18446744073709551615
