-- Each turn hands the next number over.
use Rattle.std.proofs.Common.{◌≡◌, ◌∙◌, ap, All, ◌++◌, ◌∷◌, [], get_or, refl, subst, sym}
use Rattle.std.proofs.lemmas.List.Elements.{All-push}
use Rattle.std.specs.Option.{IsSome}
use Rattle.crossbeam_queue.specs.Passes.{view}
use Rattle.gp_inbox.specs.declared.rule.View.{View}
use Rattle.gp_inbox.specs.Passes.{IsOf}
use Rattle.gp_inbox.specs.Views.{left_of, one_of, sender_view}
use Rattle.gp_inbox.proofs.Cutting.{handed_more, left_after, one_after, sender_is_of, some_left}
use Rattle.gp_inbox.proofs.Steps.{parts}
use Rattle.gp_inbox.proofs.inbox.Inbox.cut.Goals as goal

pub another-one-requires-clause-rule : goal.another-one-requires-clause-rule
another-one-requires-clause-rule c =
    let knows = c.senders.invariant.knows in
    parts _ _ (subst (λ (view : View). IsSome view.base) (sym knows) refl) (ap (λ (view : View). view.pushed) knows) (ap (λ (view : View). view.takes) knows)
    (some_left c.args.senders.now c.senders.counter _ (ap (λ (view : View). view.numbers) knows) c.senders-test.true)

pub senders-preserved : goal.senders-preserved
senders-preserved c =
    let base = c.args._base.now in
    let senders = c.args.senders.now in
    let one = c.another-one.result in
    let knows : view one ≡ sender_view base senders (get_or senders c.senders.counter 0) =
    c.another-one.ensures.rule.1 ∙ ap one_of c.senders.invariant.knows ∙ one_after base senders c.senders.counter c.senders-test.true in
    let more : c.push.new.self.items ≡ c.senders.passes.items ++ one ∷ [] = c.in_ok-push.ensures.items in
    record {
      queue = (c.another-one.ensures.queue.0.0 ∙ c.senders.invariant.queue.0, c.another-one.ensures.queue.0.2 ∙ c.senders.invariant.queue.1);
      knows = c.another-one.ensures.rule.0 ∙ ap left_of c.senders.invariant.knows ∙ left_after base senders c.senders.counter c.senders-test.true;
      own = subst (All (IsOf c.args.self.now)) (sym more)
          (All-push (IsOf c.args.self.now) c.senders.passes.items one c.senders.invariant.own (sender_is_of c.args.self.now base senders _ one c.another-one.ensures.queue.1 knows c.requires.room));
      handed = handed_more base senders c.senders.counter c.senders.passes.items c.push.new.self.items one c.senders-test.true c.senders.invariant.handed knows more;
    }
