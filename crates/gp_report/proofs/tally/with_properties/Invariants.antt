use Rattle.std.proofs.Common.{◌≡◌, drop}
use Rattle.gp_report.specs.Entries.{entries_among}
use Rattle.gp_report.specs.Tally.{with_entries}
use Rattle.gp_report.proofs.tally.with_properties.Given as goal

abbrev pub invariant-loop-property : goal.invariant-loop-property
invariant-loop-property g l = with_entries l.tally (entries_among (drop l.property-index l.properties)) ≡ with_entries l.initial.tally (entries_among l.properties)
