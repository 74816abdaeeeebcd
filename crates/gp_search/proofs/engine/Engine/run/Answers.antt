use Rattle.std.proofs.Common.{refl, ◌∙◌, subst, ℕ, inr, arith}
use Rattle.std.specs.Prelude.{IfOk}
use Rattle.gp_derivation.specs.EarlierLaws.{all_earlier}
use Rattle.gp_search.specs.Verdict.{IsDue}
use Rattle.gp_search.proofs.Choosing.{ok_any}
use Rattle.gp_search.proofs.Offering.{adds_offers_few, adds_offers_more, adds_offers_none}
use Rattle.gp_search.proofs.Running.{adds_few, adds_few_on, added_length, counted_length, stays_learning, stays_on}
use Rattle.gp_search.proofs.engine.Engine.run.Goals as goal

pub loop-init : goal.loop-init
loop-init g c = record {
  turning = record { turning = c.requires.taking.turning; begins = refl; learned = refl };
  mail = (refl, refl, refl);
  adds = adds_offers_none c.args.asked.now.problem.now c.args.self.now (g.M.Mail.told c.args.mail.now);
}

pub returns-in_err-verdict-clause-turning : goal.returns-in_err-verdict-clause-turning
returns-in_err-verdict-clause-turning g c =
    stays_on c.args.asked.now.problem.now c.args.asked.now.query.now c.args.self.now c.loop.self c.descend.new.self c.loop.invariant.turning c.descend.ensures.turning c.descend.ensures.same

pub returns-in_err-verdict-clause-mail : goal.returns-in_err-verdict-clause-mail
returns-in_err-verdict-clause-mail g c = c.loop.invariant.mail

pub returns-in_err-verdict-clause-adds : goal.returns-in_err-verdict-clause-adds
returns-in_err-verdict-clause-adds g c = adds_few c.loop.counter c.args.budget c.args.self.now c.loop.self c.descend.new.self c.loop.invariant.adds.adds c.descend.ensures.same (omega arith)

pub returns-in-Verdict-clause-turning : goal.returns-in-Verdict-clause-turning
returns-in-Verdict-clause-turning g c =
    stays_on c.args.asked.now.problem.now c.args.asked.now.query.now c.args.self.now c.loop.self c.descend.new.self c.loop.invariant.turning c.descend.ensures.turning c.descend.ensures.same

pub returns-in-Verdict-clause-mail : goal.returns-in-Verdict-clause-mail
returns-in-Verdict-clause-mail g c = c.loop.invariant.mail

pub returns-in-Verdict-clause-adds : goal.returns-in-Verdict-clause-adds
returns-in-Verdict-clause-adds g c = adds_few c.loop.counter c.args.budget c.args.self.now c.loop.self c.descend.new.self c.loop.invariant.adds.adds c.descend.ensures.same (omega arith)

pub returns-in-Verdict-clause-offers : goal.returns-in-Verdict-clause-offers
returns-in-Verdict-clause-offers g c =
    adds_offers_few c.args.asked.now.problem.now c.loop.counter c.args.budget c.args.self.now c.loop.self c.descend.new.self (g.M.Mail.told c.args.mail.now) (g.M.Mail.told c.loop.mail) c.loop.invariant.adds c.descend.ensures.same (omega arith)

pub learn-learned-requires-clause-few : goal.learn-learned-requires-clause-few
learn-learned-requires-clause-few g c =
    omega (
      arith,
      c.requires.few,
      c.loop-test.true,
      c.descend.ensures.same.learned,
      c.loop.invariant.turning.learned,
      c.requires.taking.learned,
      added_length c.loop.counter c.args.self.now c.loop.self c.descend.new.self c.loop.invariant.adds.adds c.descend.ensures.same,
    )

pub returns-in_err-learned-in-Conflict-clause-turning : goal.returns-in_err-learned-in-Conflict-clause-turning
returns-in_err-learned-in-Conflict-clause-turning g c =
    stays_learning c.args.asked.now.problem.now c.args.asked.now.query.now c.args.self.now c.loop.self c.descend.new.self c.learn-learned.new.self c.loop.invariant.turning c.descend.ensures.same c.learn-learned.ensures.turning
    c.in_err-learned-in-Conflict.ensures.err

pub returns-in_err-learned-in-Conflict-clause-mail : goal.returns-in_err-learned-in-Conflict-clause-mail
returns-in_err-learned-in-Conflict-clause-mail g c =
    (c.learn-learned.ensures.problem ∙ c.loop.invariant.mail.0, c.learn-learned.ensures.number ∙ c.loop.invariant.mail.1, c.learn-learned.ensures.may_give ∙ c.loop.invariant.mail.2)

pub returns-in_err-learned-in-Conflict-clause-adds : goal.returns-in_err-learned-in-Conflict-clause-adds
returns-in_err-learned-in-Conflict-clause-adds g c =
    adds_few_on c.loop.counter c.args.budget c.args.self.now c.loop.self c.descend.new.self c.learn-learned.new.self c.loop.invariant.adds.adds c.descend.ensures.same c.in_err-learned-in-Conflict.ensures.err c.loop-test.true

pub loop-preserved : goal.loop-preserved
loop-preserved g c = record {
  turning = stays_learning c.args.asked.now.problem.now c.args.asked.now.query.now c.args.self.now c.loop.self c.descend.new.self c.learn-learned.new.self c.loop.invariant.turning c.descend.ensures.same c.learn-learned.ensures.turning
      (inr c.in_ok-learned-in-Conflict.ensures.ok.learns);
  mail = (c.learn-learned.ensures.problem ∙ c.loop.invariant.mail.0, c.learn-learned.ensures.number ∙ c.loop.invariant.mail.1, c.learn-learned.ensures.may_give ∙ c.loop.invariant.mail.2);
  adds = adds_offers_more c.fit_stays.ensures c.args.asked.now.problem.now c.loop.counter c.args.self.now c.loop.self c.descend.new.self c.learn-learned.new.self (g.M.Mail.told c.args.mail.now) (g.M.Mail.told c.loop.mail) (g.M.Mail.told c.learn-learned.new.mail)
      (all_earlier c.args.asked.now.problem.now c.args.asked.now.query.now.locals c.loop.self.log.items c.loop.self.begins c.loop.invariant.turning.turning.whole.log.passes) c.loop.invariant.adds c.descend.ensures.same c.in_ok-learned-in-Conflict.ensures.ok;
}

pub conclude-requires-clause-learned : goal.conclude-requires-clause-learned
conclude-requires-clause-learned g c =
    omega (arith, counted_length c.loop.counter c.args.self.now c.loop.self c.loop.invariant.adds.adds, c.loop.invariant.turning.learned, c.requires.taking.learned, c.loop.auto.counter-end, c.loop-test.false)

pub returns-clause-turning : goal.returns-clause-turning
returns-clause-turning g c =
    stays_on c.args.asked.now.problem.now c.args.asked.now.query.now c.args.self.now c.loop.self c.conclude.new.self c.loop.invariant.turning c.conclude.ensures.turning c.conclude.ensures.same

pub returns-clause-mail : goal.returns-clause-mail
returns-clause-mail g c = c.loop.invariant.mail

pub returns-clause-adds : goal.returns-clause-adds
returns-clause-adds g c = adds_few c.loop.counter c.args.budget c.args.self.now c.loop.self c.conclude.new.self c.loop.invariant.adds.adds c.conclude.ensures.same (omega arith)

pub returns-clause-offers : goal.returns-clause-offers
returns-clause-offers g c =
    ok_any c.conclude.result
    (adds_offers_few c.args.asked.now.problem.now c.loop.counter c.args.budget c.args.self.now c.loop.self c.conclude.new.self (g.M.Mail.told c.args.mail.now) (g.M.Mail.told c.loop.mail) c.loop.invariant.adds c.conclude.ensures.same (omega arith))

pub returns-clause-verdict : goal.returns-clause-verdict
returns-clause-verdict g c =
    let P : ℕ → ℕ → Type 0 = λ m n. IfOk c.conclude.result (IsDue c.args.asked.now.problem.now c.args.asked.now.query.now c.args.budget c.conclude.new.self.log.items m n) in
    subst (P c.args.self.now.begins) c.loop.invariant.turning.learned (subst (λ (m : ℕ). P m c.loop.self.learned) c.loop.invariant.turning.begins c.conclude.ensures.verdict)
