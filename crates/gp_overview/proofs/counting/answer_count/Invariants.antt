use Rattle.std.proofs.Common.{◌≡◌, ◌+◌, drop, length}
use Rattle.gp_report.specs.Entries.{entries_of}
use Rattle.gp_overview.proofs.counting.answer_count.Given as goal

abbrev pub invariant-loop-window : goal.invariant-loop-window
invariant-loop-window l = l.count + length (entries_of (drop l.window-index l.windows)) ≡ length (entries_of l.windows)
