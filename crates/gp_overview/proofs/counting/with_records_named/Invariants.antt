use Rattle.std.proofs.Common.{◌≡◌, [], drop, filter}
use Rattle.gp_overview.specs.Counting.{with_told}
use Rattle.gp_overview.specs.Counts.{has_name}
use Rattle.gp_overview.proofs.counting.with_records_named.Given as goal

abbrev pub invariant-loop-told : goal.invariant-loop-told
invariant-loop-told l =
    with_told l.counts (filter (has_name l.name) (drop l.told-index l.records)) [] ≡ with_told l.initial.counts (filter (has_name l.name) l.records) []
