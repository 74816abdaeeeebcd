-- The last offer goes to one worker after another.
use Rattle.std.proofs.Common.{◌≡◌, ◌∙◌, sym, ap, subst, ℕ, ◌+◌, List, Some, length, arith}
use Rattle.std.proofs.lemmas.List.{length_push}
use Rattle.std.proofs.lemmas.List.Elements.{All-pop}
use Rattle.gp_derivation.specs.declared.exchange.SharedClause.{SharedClause}
use Rattle.gp_workers.specs.Desk.{IsLastOffer, PushesBelow}
use Rattle.gp_workers.proofs.DeskPushes.{last_stays, skips_own}
use Rattle.gp_workers.proofs.desk.Desk.push_all.Goals as goal

pub loop-taker-preserved-then-taker-self : goal.loop-taker-preserved-then-taker-self
loop-taker-preserved-then-taker-self g c =
    let desk = c.loop-taker.self in
    let at : c.loop-taker.taker ≡ desk.place = c.if-taker-self.true in
    let own : desk.place ≡ c.args.self.now.place = c.loop-taker.invariant.same.place in
    record {
      same = c.loop-taker.invariant.same;
      outgoing = c.loop-taker.invariant.outgoing;
      empty = c.loop-taker.invariant.empty;
      taken = c.loop-taker.invariant.taken;
      below = subst (λ (n : ℕ). PushesBelow (n + 1) desk) (sym at) (skips_own desk (subst (λ (n : ℕ). PushesBelow n desk) at c.loop-taker.invariant.below));
      early = λ low. absurd (omega (arith, low, at, own));
      late = λ low. let before : length c.loop-taker.copies.items + c.loop-taker.taker + 1 ≡ length c.args.self.now.inboxes.now = c.loop-taker.invariant.early (omega (arith, at, own)) in omega (arith, before);
      copies = c.loop-taker.invariant.copies;
    }

pub push_to-requires-clause-copy : goal.push_to-requires-clause-copy
push_to-requires-clause-copy g c =
    last_stays c.args.self.now c.loop-taker.self c.in-Some.copy c.loop-taker.invariant.same c.loop-taker.invariant.outgoing
    (All-pop (IsLastOffer c.args.self.now) c.loop-taker.copies.items c.pop.new.self.items (Some c.in-Some.copy) c.in-Some.ensures.items c.loop-taker.invariant.copies).1

pub loop-taker-preserved : goal.loop-taker-preserved
loop-taker-preserved g c =
    let old = c.loop-taker.self in
    let apart = c.if-taker-self.false in
    let own : old.place ≡ c.args.self.now.place = c.loop-taker.invariant.same.place in
    let fewer : length c.pop.new.self.items + 1 ≡ length c.loop-taker.copies.items = sym (ap (λ (ss : List SharedClause). length ss) c.in-Some.ensures.items ∙ length_push c.pop.new.self.items c.in-Some.copy) in
    let same = c.push_to.ensures.same in
    record {
      same = record {
        problem = same.problem ∙ c.loop-taker.invariant.same.problem;
        inboxes = same.inboxes ∙ c.loop-taker.invariant.same.inboxes;
        place = same.place ∙ c.loop-taker.invariant.same.place;
      };
      outgoing = c.push_to.ensures.outgoing ∙ c.loop-taker.invariant.outgoing;
      empty = c.push_to.ensures.empty ∙ c.loop-taker.invariant.empty;
      taken = c.push_to.ensures.taken ∙ c.loop-taker.invariant.taken;
      below = c.push_to.ensures.next;
      early = λ low. let before : length c.loop-taker.copies.items + c.loop-taker.taker + 1 ≡ length c.args.self.now.inboxes.now = c.loop-taker.invariant.early (omega (arith, low)) in omega (arith, before, fewer);
      late = λ low. let before : length c.loop-taker.copies.items + c.loop-taker.taker ≡ length c.args.self.now.inboxes.now = c.loop-taker.invariant.late (omega (arith, low, apart, own)) in omega (arith, before, fewer);
      copies = (All-pop (IsLastOffer c.args.self.now) c.loop-taker.copies.items c.pop.new.self.items (Some c.in-Some.copy) c.in-Some.ensures.items c.loop-taker.invariant.copies).0;
    }
