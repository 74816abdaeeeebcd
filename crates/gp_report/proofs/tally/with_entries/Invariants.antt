use Rattle.std.proofs.Common.{◌≡◌, drop}
use Rattle.gp_report.specs.Tally.{with_entries}
use Rattle.gp_report.proofs.tally.with_entries.Given as goal

abbrev pub invariant-loop-entry : goal.invariant-loop-entry
invariant-loop-entry g l = with_entries l.tally (drop l.entry-index l.entries) ≡ with_entries l.initial.tally l.entries
