use Rattle.std.proofs.Common.{arith}
use Rattle.gp_difference.proofs.TidyLemmas.{done_falls, done_to}
use Rattle.gp_difference.proofs.placement.copy_at.Goals as goal

pub returns-clause-to : goal.returns-clause-to
returns-clause-to c =
    let inv = c.loop-point.invariant in
    done_to c.args.points.now c.loop-point.point-index c.args.from.now _ c.loop-point.falls inv.size inv.differ (omega (arith, c.loop-point-test.false))

pub returns-clause-falls : goal.returns-clause-falls
returns-clause-falls c =
    let inv = c.loop-point.invariant in
    done_falls c.args.points.now c.loop-point.point-index c.args.from.now c.loop-point.to _ inv.falls_size inv.differ (omega (arith, c.loop-point-test.false))
