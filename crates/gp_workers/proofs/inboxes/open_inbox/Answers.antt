-- The senders are the other workers, and the taker's pass comes to its own place.
use Rattle.std.proofs.Common.{◌≡◌, ◌∙◌, ◌+◌, ◌≤◌, length, arith}
use Rattle.gp_workers.proofs.InboxRows.{all_different, is_row, others_count, taker_place}
use Rattle.gp_workers.proofs.inboxes.open_inbox.Goals as goal

pub new-requires-clause-few : goal.new-requires-clause-few
new-requires-clause-few c =
    let counted : length c.as_slice.result.now + 1 ≡ c.args.workers = others_count c.as_slice.result.now c.args.workers c.args.taker (c.as_slice.ensures.value ∙ c.in_ok-senders.ensures) c.requires.taker in
    (omega (arith, counted, c.requires.workers.0), omega (arith, counted, c.requires.workers.1))

pub new-requires-clause-different : goal.new-requires-clause-different
new-requires-clause-different c = all_different c.as_slice.result.now c.args.workers c.args.taker (c.as_slice.ensures.value ∙ c.in_ok-senders.ensures)

pub insert-requires : goal.insert-requires
insert-requires c =
    let inbox = c.in_ok-inbox in
    let low : c.args.taker ≤ length inbox.row.items =
    taker_place c.args.problem.now c.args.workers c.args.taker inbox.inbox c.as_slice.result.now inbox.row.items inbox.pass c.requires.taker (c.as_slice.ensures.value ∙ c.in_ok-senders.ensures)
    inbox.ensures.own.0 inbox.ensures.own.1 inbox.ensures.senders inbox.ensures.taker in
    omega (arith, low, inbox.row.ok.0)

pub returns : goal.returns
returns c =
    let inbox = c.in_ok-inbox in
    is_row c.args.problem.now c.args.workers c.args.taker inbox.inbox c.as_slice.result.now inbox.row.items inbox.pass c.requires.taker (c.as_slice.ensures.value ∙ c.in_ok-senders.ensures)
    inbox.ensures.own.0 inbox.ensures.own.1 inbox.ensures.senders inbox.ensures.taker c.insert.new.self.items c.in_ok-insert.ensures.items
