-- One inbox more is renewed.
use Rattle.std.proofs.Common.{◌≡◌, ◌∙◌, ap, ℕ, ◌+◌, List, length, arith}
use Rattle.std.specs.List.{slice_get}
use Rattle.crossbeam_queue.specs.Passes.{Pass}
use Rattle.gp_derivation.specs.declared.exchange.SharedClause.{SharedClause}
use Rattle.gp_inbox.specs.declared.rule.View.{View}
use Rattle.gp_workers.proofs.PostRenewed.{next_whole, renewed_more}
use Rattle.gp_workers.proofs.post.renew_inboxes.Goals as goal

pub renew_inbox-requires-clause-own : goal.renew_inbox-requires-clause-own
renew_inbox-requires-clause-own c =
    (next_whole c.args.problem.now c.args.workers c.loop-taker.taker c.args.inboxes.now c.args.passes.items c.loop-taker.left.items c.pop_front.new.self.items c.index-inboxes-taker.result c.in-Some.pass c.loop-taker-test.true c.requires.len c.requires.whole
    c.loop-taker.invariant.left c.in-Some.ensures.items c.index-inboxes-taker.is).0

pub renew_inbox-requires-clause-whole : goal.renew_inbox-requires-clause-whole
renew_inbox-requires-clause-whole c =
    (next_whole c.args.problem.now c.args.workers c.loop-taker.taker c.args.inboxes.now c.args.passes.items c.loop-taker.left.items c.pop_front.new.self.items c.index-inboxes-taker.result c.in-Some.pass c.loop-taker-test.true c.requires.len c.requires.whole
    c.loop-taker.invariant.left c.in-Some.ensures.items c.index-inboxes-taker.is).1

pub loop-taker-init : goal.loop-taker-init
loop-taker-init c =
    let are = c.from_vec-left.ensures.items in
    record {
      enough = omega (arith, ap (λ (ps : List (Pass SharedClause View)). length ps) are, c.requires.whole.len, c.requires.len);
      left = λ place. ap (λ (ps : List (Pass SharedClause View)). slice_get ps place) are ∙ ap (λ (n : ℕ). slice_get c.args.passes.items n) (let same : place ≡ 0 + place = omega arith in same);
      columns = c.in_ok-columns.ensures c.args.problem.now;
    }

pub loop-taker-preserved : goal.loop-taker-preserved
loop-taker-preserved c =
    let more =
    renewed_more c.args.problem.now c.args.workers c.loop-taker.taker c.args.inboxes.now c.args.passes.items c.loop-taker.left.items c.pop_front.new.self.items c.index-inboxes-taker.result c.in-Some.pass c.loop-taker-test.true c.requires.len c.requires.whole
    c.loop-taker.invariant.left c.in-Some.ensures.items c.index-inboxes-taker.is
    c.loop-taker.columns.items c.deal.new.columns.items c.in_ok-row.row.items c.loop-taker.invariant.columns c.in_ok-row.ensures c.in_ok-deal.ensures.len c.in_ok-deal.ensures.dealt in
    record {
      enough = omega (arith, c.loop-taker.invariant.enough, ap (λ (ps : List (Pass SharedClause View)). length ps) c.in-Some.ensures.items);
      left = more.1;
      columns = more.0;
    }
