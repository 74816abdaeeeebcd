-- One folder more is in order.
use Rattle.std.proofs.Common.{sym, ◌∙◌}
use Rattle.gp_shards.proofs.Walking.{order_more}
use Rattle.gp_shards.proofs.ordering.in_order.Goals as goal

pub loop-before-preserved : goal.loop-before-preserved
loop-before-preserved c =
    rw c.in_ok-push.ensures.ok
    (sym (order_more c.args.folders.now c.args.parts c.loop-before.before c.loop-before.ordered c.in-Some.folder c.loop-before-test.true (sym c.in-Some.ensures)) ∙ c.loop-before.invariant)
