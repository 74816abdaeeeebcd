use Rattle.std.proofs.Common.{◌≡◌, drop}
use Rattle.gp_report.specs.Entries.{entries_of}
use Rattle.gp_report.specs.Tally.{tally_of, with_entries}
use Rattle.gp_report.proofs.tally.tally_of.Given as goal

abbrev pub invariant-loop-window : goal.invariant-loop-window
invariant-loop-window g l = with_entries l.tally (entries_of (drop l.window-index l.windows)) ≡ tally_of (entries_of l.windows)
