use Rattle.std.proofs.Common.{subst, sym}
use Rattle.std.specs.Prelude.{Contains}
use Rattle.gp_notify.proofs.Sleeps.{wake_of}
use Rattle.gp_notify.proofs.wake_sleeps.unpaired.Goals as goal

pub sleep_of-requires-clause-wake : goal.sleep_of-requires-clause-wake
sleep_of-requires-clause-wake c =
    let listed : Contains c.args.wakes.now c.w-item.result = (c.loop-w.w-index, c.loop-w-test.true, sym c.w-item.is) in
    (wake_of c.args.window.now c.w-item.result (subst (λ ws. Contains ws c.w-item.result) c.requires.wakes listed)).in_w
