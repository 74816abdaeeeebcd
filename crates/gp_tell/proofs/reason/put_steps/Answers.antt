use Rattle.gp_tell.specs.Naming.{name_by}
use Rattle.gp_tell.proofs.Told.{one_step}
use Rattle.gp_tell.proofs.reason.put_steps.Goals as goal

pub loop-place-preserved : goal.loop-place-preserved
loop-place-preserved c =
    rw c.in_ok-put_step.ensures
    (one_step (name_by c.args.naming.now) c.loop-place.text.items _ c.args.steps.now c.index-steps-place.result c.loop-place.place c.loop-place-test.true c.index-steps-place.is c.loop-place.invariant)
