use Rattle.std.proofs.Common.{◌≡◌, ◌+◌, ◌-◌, ◌*◌, ◌≤◌, map, sum}
use Rattle.std.specs.List.{range_with_len}
use Rattle.gp_cut.specs.Parts.{middles_before, weight_of, weights_of, windows_to}
use Rattle.gp_cut.proofs.parting.windows_to.Given as goal

abbrev pub invariant-loop-before : goal.invariant-loop-before
invariant-loop-before l = record {
  value : l.before + middles_before l.part l.parts (sum (weights_of l.recording)) l.passed (map (weight_of l.recording) (range_with_len l.before (l.windows - l.before)))
      ≡ windows_to l.part l.parts (weights_of l.recording);
  small : l.passed ≤ l.before * 274877906944;
}
