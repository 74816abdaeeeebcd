use Rattle.std.proofs.Common.{◌≡◌, drop}
use Rattle.gp_overview.specs.Counting.{with_told}
use Rattle.gp_overview.specs.Counts.{records_of, total_of}
use Rattle.gp_overview.proofs.counting.total_of.Given as goal

abbrev pub invariant-loop-window : goal.invariant-loop-window
invariant-loop-window l = with_told l.counts (records_of (drop l.window-index l.windows)) (drop l.window-index l.windows) ≡ total_of l.windows
