use Rattle.std.proofs.Common.{◌≡◌, drop}
use Rattle.gp_overview.specs.Counting.{with_entries}
use Rattle.gp_overview.proofs.counting.with_entries.Given as goal

abbrev pub invariant-loop-entry : goal.invariant-loop-entry
invariant-loop-entry l = with_entries l.counts (drop l.entry-index l.entries) ≡ with_entries l.initial.counts l.entries
