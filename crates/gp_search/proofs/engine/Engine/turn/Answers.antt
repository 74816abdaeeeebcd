use Rattle.std.proofs.Common.{◌∙◌, sym, ap, subst, ℕ, List, length, arith}
use Rattle.std.specs.Prelude.{IfOk}
use Rattle.gp_derivation.specs.declared.log.LogEntry.{LogEntry}
use Rattle.gp_search.specs.Verdict.{IsDue}
use Rattle.gp_search.proofs.Running.{all_shared, grown_none, grown_on, grown_taken, taken_up_to}
use Rattle.gp_search.proofs.engine.Engine.turn.Goals as goal

pub returns-in_err-begin-clause-grown : goal.returns-in_err-begin-clause-grown
returns-in_err-begin-clause-grown g c = grown_none c.args.budget c.args.self.now c.begin.new.self c.begin.ensures.same c.begin.ensures.learned

pub returns-in_err-take_all-clause-grown : goal.returns-in_err-take_all-clause-grown
returns-in_err-take_all-clause-grown g c = grown_taken c.args.budget c.args.self.now c.begin.new.self c.take_all.new.self c.begin.ensures.same c.take_all.ensures.some c.take_all.ensures.taking.learned

pub returns-in_err-take_all-clause-none : goal.returns-in_err-take_all-clause-none
returns-in_err-take_all-clause-none g c = λ never.
    c.take_all.ensures.taking.learned ∙ ap (λ (es : List LogEntry). length es) (c.take_all.ensures.none never ∙ c.begin.ensures.same)

pub take_all-requires-clause-few : goal.take_all-requires-clause-few
take_all-requires-clause-few g c = omega (arith, c.requires.few, c.requires.budget, ap (λ (es : List LogEntry). length es) c.begin.ensures.same)

pub run-requires-clause-few : goal.run-requires-clause-few
run-requires-clause-few g c =
    omega (arith, c.requires.few, c.requires.budget, c.take_all.ensures.taking.learned, c.take_all.ensures.some.few, taken_up_to c.args.self.now c.begin.new.self c.take_all.new.self c.begin.ensures.same c.take_all.ensures.some)

pub returns-clause-begins : goal.returns-clause-begins
returns-clause-begins g c = c.run.ensures.turning.begins ∙ (c.take_all.ensures.some.begins ∙ c.begin.ensures.begins)

pub returns-clause-none : goal.returns-clause-none
returns-clause-none g c = λ never.
    c.run.ensures.turning.learned ∙ (c.take_all.ensures.taking.learned ∙ ap (λ (es : List LogEntry). length es) (c.take_all.ensures.none never ∙ c.begin.ensures.same))

pub returns-clause-grown : goal.returns-clause-grown
returns-clause-grown g c =
    grown_on c.args.budget c.args.self.now c.begin.new.self c.take_all.new.self c.run.new.self c.begin.ensures.same c.take_all.ensures.some c.take_all.ensures.taking.learned c.run.ensures.adds c.run.ensures.turning.learned

pub returns-clause-shares : goal.returns-clause-shares
returns-clause-shares g c =
    all_shared c.run.result c.args.asked.now.problem.now c.args.budget c.args.self.now c.begin.new.self c.take_all.new.self c.run.new.self (g.M.Mail.told c.args.mail.now) (g.M.Mail.told c.take_all.new.mail) (g.M.Mail.told c.run.new.mail) c.begin.ensures.same
    c.in_ok-take_all.ensures.all c.take_all.ensures.taking.learned c.run.ensures.offers c.run.ensures.turning.learned

pub returns-clause-verdict : goal.returns-clause-verdict
returns-clause-verdict g c =
    let P : ℕ → ℕ → Type 0 = λ m n. IfOk c.run.result (IsDue c.args.asked.now.problem.now c.args.asked.now.query.now c.args.budget c.run.new.self.log.items m n) in
    subst (P (length c.args.self.now.log.items)) (sym c.run.ensures.turning.learned)
    (subst (λ (m : ℕ). P m c.take_all.new.self.learned) (c.take_all.ensures.some.begins ∙ c.begin.ensures.begins) c.run.ensures.verdict)

pub returns-clause-whole : goal.returns-clause-whole
returns-clause-whole g c = c.run.ensures.turning.turning.whole

pub returns-clause-problem : goal.returns-clause-problem
returns-clause-problem g c = c.run.ensures.mail.0 ∙ c.take_all.ensures.problem

pub returns-clause-number : goal.returns-clause-number
returns-clause-number g c = c.run.ensures.mail.1 ∙ c.take_all.ensures.number

pub returns-clause-may_give : goal.returns-clause-may_give
returns-clause-may_give g c = c.run.ensures.mail.2 ∙ c.take_all.ensures.may_give
