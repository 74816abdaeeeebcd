use Rattle.std.proofs.Common.{◌+◌, ◌-◌, arith, length, refl}
use Rattle.gp_reason.proofs.Marked.{walk_back, walk_begun, walk_ended}
use Rattle.gp_reason.proofs.marking.mark_earlier.Goals as goal

pub loop-place-init : goal.loop-place-init
loop-place-init c = record {
  within = omega arith;
  walked = λ told cited. walk_begun c.args.marks.now c.args.first (c.args.first + length c.args.steps.now) c.args.steps.now told refl cited;
}

pub loop-place-preserved : goal.loop-place-preserved
loop-place-preserved c = record {
  within = omega (arith, c.loop-place.invariant.within);
  walked = λ told cited.
      walk_back c.args.marks.now c.loop-place.marks c.mark_step.new.marks c.args.first (c.loop-place.place - 1) c.loop-place.place (c.args.first + length c.args.steps.now)
      c.args.steps.now c.index-steps-place.result told (omega (arith, c.loop-place-test.true)) (omega (arith, c.loop-place.invariant.within, c.loop-place-test.true)) refl
      c.index-steps-place.is c.mark_step.ensures (c.loop-place.invariant.walked told cited);
}

pub returns : goal.returns
returns c = λ told cited.
    walk_ended c.args.marks.now c.loop-place.marks c.args.first c.loop-place.place (c.args.first + length c.args.steps.now) c.args.steps.now told
    (omega (arith, c.loop-place-test.false)) (c.loop-place.invariant.walked told cited)
