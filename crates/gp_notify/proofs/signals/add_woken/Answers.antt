use Rattle.std.proofs.Common.{◌∙◌, subst, sym}
use Rattle.std.specs.Prelude.{Contains}
use Rattle.gp_notify.proofs.Sleeps.{wake_of}
use Rattle.gp_notify.proofs.signals.add_woken.Goals as goal

pub woken-requires-clause-wake : goal.woken-requires-clause-wake
woken-requires-clause-wake c =
    let listed : Contains c.as_slice-w-items.result.now c.w-item.result = (c.loop-w.w-index, c.loop-w-test.true, sym c.w-item.is) in
    (wake_of c.args.window.now c.w-item.result (subst (λ ws. Contains ws c.w-item.result) (c.as_slice-w-items.ensures ∙ c.requires.tables.wakes_are) listed)).in_w
