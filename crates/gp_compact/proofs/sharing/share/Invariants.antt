use Rattle.std.proofs.Common.{◌≡◌, ◌+◌, ◌^◌, ◌<◌, drop, length}
use Rattle.gp_report.specs.Entries.{entries_among}
use Rattle.gp_sharing.specs.Compacted.{steps_in, with_entries}
use Rattle.gp_compact.proofs.sharing.share.Given as goal

abbrev pub invariant-loop-property : goal.invariant-loop-property
invariant-loop-property l =
    (with_entries l.sizes l.list (entries_among (drop l.property-index l.property-items)) ≡ with_entries l.sizes l.fn.shared (entries_among l.property-items))
    × (l.sizes.clauses + length l.list + steps_in (entries_among (drop l.property-index l.property-items)) < 2 ^ 31)
