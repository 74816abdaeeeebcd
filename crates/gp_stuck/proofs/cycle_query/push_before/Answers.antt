-- The event before one that is there is there.
use Rattle.std.proofs.Common.{arith, ◌<◌}
use Rattle.gp_stuck.proofs.Events.{there_before}
use Rattle.gp_stuck.proofs.cycle_query.push_before.Goals as goal

pub push_executed-requires : goal.push_executed-requires
push_executed-requires c =
    let less : c.in-Some.index < c.args.id.index = omega (arith, c.in-Some.ensures) in
    there_before c.args.encoded.now c.args.id.thread c.in-Some.index c.args.id.index less c.requires
