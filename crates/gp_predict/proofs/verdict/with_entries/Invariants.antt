use Rattle.std.proofs.Common.{◌≡◌, ◌+◌, drop, length}
use Rattle.gp_report.specs.Entries.{entries_among}
use Rattle.gp_predict.proofs.verdict.with_entries.Given as goal

abbrev pub invariant-loop-property : goal.invariant-loop-property
invariant-loop-property l =
    l.count + length (entries_among (drop l.property-index l.properties)) ≡ l.before + length (entries_among l.properties)
