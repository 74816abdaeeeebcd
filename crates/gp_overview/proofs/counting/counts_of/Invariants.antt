use Rattle.std.proofs.Common.{◌≡◌, drop, filter}
use Rattle.gp_overview.specs.Counting.{with_told}
use Rattle.gp_overview.specs.Counts.{counts_of, has_name, records_of}
use Rattle.gp_overview.proofs.counting.counts_of.Given as goal

abbrev pub invariant-loop-window : goal.invariant-loop-window
invariant-loop-window l =
    with_told l.counts (filter (has_name l.name) (records_of (drop l.window-index l.windows))) (drop l.window-index l.windows) ≡ counts_of l.windows l.name
