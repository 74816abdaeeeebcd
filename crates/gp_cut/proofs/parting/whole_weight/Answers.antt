use Rattle.std.proofs.Common.{arith}
use Rattle.std.proofs.lemmas.List.FromFn.{sum_by-map-range_with_len_more}
use Rattle.gp_cut.specs.Parts.{weight_of}
use Rattle.gp_cut.proofs.parting.whole_weight.Goals as goal

pub loop-before-preserved : goal.loop-before-preserved
loop-before-preserved c =
    let so_far = c.loop-before.invariant in
    let more = sum_by-map-range_with_len_more (λ weight. weight) (weight_of c.args.recording.now) 0 c.loop-before.before c.loop-before.before (omega arith) in
    record {
      value = omega (arith, more, so_far.value, c.weight_of-whole.ensures.value);
      small = omega (arith, so_far.small, c.weight_of-whole.ensures.small);
    }
