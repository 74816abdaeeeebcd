-- One inbox more is open.
use Rattle.std.proofs.Common.{◌≡◌, sym, ◌∙◌, ap, subst, ◌+◌, List, length, arith}
use Rattle.std.proofs.lemmas.List.{length_push}
use Rattle.gp_inbox.specs.declared.inbox.Inbox.{Inbox}
use Rattle.gp_workers.specs.Inboxes.{AreColumns}
use Rattle.gp_workers.proofs.InboxColumns.{column_more}
use Rattle.gp_workers.proofs.inboxes.open_inboxes.Goals as goal

pub loop-taker-init : goal.loop-taker-init
loop-taker-init c =
    let none = c.new-inboxes.ensures.items in
    record {
      len = ap (λ (inboxes : List Inbox). length inboxes) none;
      columns = subst (λ (inboxes : List Inbox). AreColumns c.args.problem.now c.args.workers inboxes c.in_ok-columns.columns.items) (sym none) (c.in_ok-columns.ensures c.args.problem.now);
    }

pub loop-taker-preserved : goal.loop-taker-preserved
loop-taker-preserved c =
    let inboxes = c.loop-taker.inboxes.items in
    let taker = c.loop-taker.taker in
    let more = c.in_ok-push.ensures.items in
    let longer : length c.push.new.self.items ≡ length inboxes + 1 = ap (λ (all : List Inbox). length all) more ∙ length_push inboxes c.in_ok-inbox.inbox in
    record {
      len = omega (arith, longer, c.loop-taker.invariant.len);
      columns = column_more c.args.problem.now c.args.workers taker inboxes c.push.new.self.items c.loop-taker.columns.items c.deal.new.columns.items c.in_ok-inbox.inbox c.in_ok-inbox.row.items c.loop-taker.invariant.columns c.loop-taker.invariant.len
          c.in_ok-inbox.ensures c.in_ok-deal.ensures.len more c.in_ok-deal.ensures.dealt;
    }
