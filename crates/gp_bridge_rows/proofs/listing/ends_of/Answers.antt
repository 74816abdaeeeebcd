-- One thread more is listed.
use Rattle.std.proofs.Common.{ℕ, ◌+◌, ◌<◌, length, rules}
use Rattle.gp_bridge_rows.specs.Ends.{ends_of}
use Rattle.gp_bridge_rows.proofs.EndsListed.{one_thread}
use Rattle.gp_bridge_rows.proofs.listing.ends_of.Goals as goal

pub loop-thread-preserved : goal.loop-thread-preserved
loop-thread-preserved c =
    let threads : ℕ = length c.segments.result.now in
    let below : c.loop-thread.thread < threads + 1 = search rules in
    rw c.in_ok-push_end.ensures
    (one_thread c.args.window.now c.args.number c.loop-thread.thread threads c.loop-thread.ends (ends_of c.args.window.now c.args.number) below c.loop-thread.invariant)
