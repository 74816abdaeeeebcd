-- One event more.
use Rattle.std.proofs.Common.{◌≡◌, ◌+◌, arith, suc}
use Rattle.gp_stuck.proofs.Ways.{held_next}
use Rattle.gp_stuck.proofs.holding.use_locks.Goals as goal

pub loop-index-preserved : goal.loop-index-preserved
loop-index-preserved c =
    let next : c.loop-index.index + 1 ≡ suc c.loop-index.index = omega arith in
    held_next c.args.window.now c.args.thread c.loop-index.index (c.loop-index.index + 1) c.loop-index.held c.use_one.new.held next c.in_ok-use_one.ensures c.loop-index.invariant
