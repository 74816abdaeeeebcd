-- The passes of one worker more are joined.
use Rattle.gp_workers.proofs.InboxJoins.{joins_more, next_row}
use Rattle.gp_workers.proofs.inboxes.join_all.Goals as goal

pub loop-row-preserved : goal.loop-row-preserved
loop-row-preserved c =
    let rest = c.pop_front-in-loop-row.new.self.items in
    let row = c.in-Some-pop_front.row in
    let left = c.in-Some-pop_front.ensures.items in
    record {
      own = c.join_row.ensures.own;
      rows = (next_row c.args.inboxes.now c.loop-row.rows.items rest row c.loop-row.invariant.rows left).1;
      joins = joins_more c.args.rows.items c.loop-row.rows.items rest row c.loop-row.joined.items c.join_row.new.joined.items c.loop-row.invariant.joins left c.join_row.ensures.each;
    }
