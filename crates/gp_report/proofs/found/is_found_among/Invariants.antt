use Rattle.std.proofs.Common.{◌≡◌, drop}
use Rattle.gp_report.specs.Entries.{any_found, entries_among}
use Rattle.gp_report.proofs.found.is_found_among.Given as goal

abbrev pub invariant-loop-property : goal.invariant-loop-property
invariant-loop-property g l = any_found (entries_among (drop l.property-index l.properties)) ≡ any_found (entries_among l.properties)
