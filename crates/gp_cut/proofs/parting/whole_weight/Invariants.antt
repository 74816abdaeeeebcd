use Rattle.std.proofs.Common.{◌≡◌, ◌*◌, ◌≤◌, map, sum}
use Rattle.std.specs.List.{range_with_len}
use Rattle.gp_cut.specs.Parts.{weight_of}
use Rattle.gp_cut.proofs.parting.whole_weight.Given as goal

abbrev pub invariant-loop-before : goal.invariant-loop-before
invariant-loop-before l = record {
  value : l.whole ≡ sum (map (weight_of l.recording) (range_with_len 0 l.before));
  small : l.whole ≤ l.before * 274877906944;
}
