use Rattle.std.proofs.Common.{◌≡◌, drop}
use Rattle.gp_report.specs.Entries.{any_found, entries_of}
use Rattle.gp_report.proofs.found.is_any_found.Given as goal

abbrev pub invariant-loop-window : goal.invariant-loop-window
invariant-loop-window g l = any_found (entries_of (drop l.window-index l.windows)) ≡ any_found (entries_of l.windows)
