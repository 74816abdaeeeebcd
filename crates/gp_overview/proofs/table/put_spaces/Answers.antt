use Rattle.gp_overview.proofs.Told.{space_put}
use Rattle.gp_overview.proofs.table.put_spaces.Goals as goal

pub loop-space-preserved : goal.loop-space-preserved
loop-space-preserved c =
    rw c.in_ok-push.ensures.items (space_put c.loop-space.text.items _ c.loop-space._space c.args.count c.loop-space-test.true c.loop-space.invariant)
