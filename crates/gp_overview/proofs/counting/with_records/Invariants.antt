use Rattle.std.proofs.Common.{◌≡◌, [], drop}
use Rattle.gp_overview.specs.Counting.{with_told}
use Rattle.gp_overview.proofs.counting.with_records.Given as goal

abbrev pub invariant-loop-told : goal.invariant-loop-told
invariant-loop-told l = with_told l.counts (drop l.told-index l.records) [] ≡ with_told l.initial.counts l.records []
