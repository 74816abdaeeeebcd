-- The senders are the other workers, and the taker's pass comes to its own place.
use Rattle.std.proofs.Common.{sym, ◌∙◌, ◌≤◌, length, arith}
use Rattle.gp_workers.proofs.InboxRows.{is_row, taker_place}
use Rattle.gp_workers.proofs.post.renew_inbox.Goals as goal

pub renew-requires-clause-same : goal.renew-requires-clause-same
renew-requires-clause-same c = c.as_slice.ensures.value ∙ c.in_ok-senders.ensures ∙ sym c.requires.whole.senders

pub insert-requires : goal.insert-requires
insert-requires c =
    let row = c.in_ok-row in
    let low : c.args.taker ≤ length row.row.items =
    taker_place c.args.problem.now c.args.workers c.args.taker c.args.inbox.now c.as_slice.result.now row.row.items c.renew.new.pass c.requires.taker (c.as_slice.ensures.value ∙ c.in_ok-senders.ensures)
    row.ensures.own.0 row.ensures.own.1 row.ensures.senders row.ensures.taker in
    omega (arith, low, row.row.ok.0)

pub returns : goal.returns
returns c =
    let row = c.in_ok-row in
    is_row c.args.problem.now c.args.workers c.args.taker c.args.inbox.now c.as_slice.result.now row.row.items c.renew.new.pass c.requires.taker (c.as_slice.ensures.value ∙ c.in_ok-senders.ensures)
    row.ensures.own.0 row.ensures.own.1 row.ensures.senders row.ensures.taker c.insert.new.self.items c.in_ok-insert.ensures.items
