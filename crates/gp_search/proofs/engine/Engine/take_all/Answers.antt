use Rattle.std.proofs.Common.{◌≡◌, ◌∙◌, refl, subst, List, Bool, true, false, arith, rules}
use Rattle.std.specs.Prelude.{MatchBool}
use Rattle.gp_derivation.specs.declared.log.LogEntry.{LogEntry}
use Rattle.gp_search.specs.Moves.{FindsNone, TakesOne}
use Rattle.gp_search.proofs.Takes.{taken_length, taken_more, taken_none, takes_all, takes_enough}
use Rattle.gp_search.proofs.engine.Engine.take_all.Goals as goal

pub loop-init : goal.loop-init
loop-init g c = record {
  taking = c.requires.taking;
  problem = refl;
  number = refl;
  may_give = refl;
  none = λ _. refl;
  taken = taken_none c.args.self.now (g.M.Mail.told c.args.mail.now);
}

pub take_one-requires-clause-few : goal.take_one-requires-clause-few
take_one-requires-clause-few g c =
    omega (arith, c.requires.few, c.loop-test.true, taken_length c.loop.counter c.args.self.now c.loop.self (g.M.Mail.told c.args.mail.now) (g.M.Mail.told c.loop.mail) c.loop.invariant.taken)

pub loop-preserved : goal.loop-preserved
loop-preserved g c =
    let took : c.in_ok-take_one.field-0 ≡ true = search rules in
    let one : TakesOne c.loop.self c.take_one.new.self (g.M.Mail.told c.loop.mail) (g.M.Mail.told c.take_one.new.mail) =
    subst (λ (b : Bool). MatchBool b (TakesOne c.loop.self c.take_one.new.self (g.M.Mail.told c.loop.mail) (g.M.Mail.told c.take_one.new.mail)) (FindsNone c.loop.self c.take_one.new.self (g.M.Mail.told c.loop.mail) (g.M.Mail.told c.take_one.new.mail)))
    took c.in_ok-take_one.ensures.ok in
    record {
      taking = c.take_one.ensures.taking;
      problem = c.take_one.ensures.problem ∙ c.loop.invariant.problem;
      number = c.take_one.ensures.number ∙ c.loop.invariant.number;
      may_give = c.take_one.ensures.may_give ∙ c.loop.invariant.may_give;
      none = λ never. ◌∙◌ {A = List LogEntry} (c.take_one.ensures.none (c.loop.invariant.may_give ∙ never)) (c.loop.invariant.none never);
      taken = taken_more c.loop.counter c.args.self.now c.loop.self c.take_one.new.self (g.M.Mail.told c.args.mail.now) (g.M.Mail.told c.loop.mail) (g.M.Mail.told c.take_one.new.mail) c.loop.invariant.taken one;
    }

pub returns-then-not-branch-clause-all : goal.returns-then-not-branch-clause-all
returns-then-not-branch-clause-all g c =
    let took : c.in_ok-take_one.field-0 ≡ false = search rules in
    let none : FindsNone c.loop.self c.take_one.new.self (g.M.Mail.told c.loop.mail) (g.M.Mail.told c.take_one.new.mail) =
    subst (λ (b : Bool). MatchBool b (TakesOne c.loop.self c.take_one.new.self (g.M.Mail.told c.loop.mail) (g.M.Mail.told c.take_one.new.mail)) (FindsNone c.loop.self c.take_one.new.self (g.M.Mail.told c.loop.mail) (g.M.Mail.told c.take_one.new.mail)))
    took c.in_ok-take_one.ensures.ok in
    takes_all c.loop.counter c.args.self.now c.loop.self c.take_one.new.self (g.M.Mail.told c.args.mail.now) (g.M.Mail.told c.loop.mail) (g.M.Mail.told c.take_one.new.mail) c.loop.invariant.taken none (omega (arith, c.loop-test.true))

pub returns-clause-all : goal.returns-clause-all
returns-clause-all g c =
    takes_enough c.loop.counter c.args.self.now c.loop.self (g.M.Mail.told c.args.mail.now) (g.M.Mail.told c.loop.mail) c.loop.invariant.taken (omega (arith, c.loop-test.false, c.loop.auto.counter-end))
