use Rattle.std.proofs.Common.{◌≡◌, ◌+◌, drop, length}
use Rattle.gp_report.specs.Entries.{entries_among}
use Rattle.gp_overview.proofs.counting.with_answers.Given as goal

abbrev pub invariant-loop-told : goal.invariant-loop-told
invariant-loop-told l = l.count + length (entries_among (drop l.told-index l.records)) ≡ l.initial.count + length (entries_among l.records)
