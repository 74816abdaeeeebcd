use Rattle.std.proofs.Common.{◌∙◌, sym, subst, ◌<◌}
use Rattle.gp_search.specs.declared.engine.Engine.{Engine}
use Rattle.gp_search.specs.Inside.{IsTurning}
use Rattle.gp_search.specs.Moves.{IsLearnedStep, IsLesson}
use Rattle.gp_search.proofs.Choosing.{keeps_on, keeps_same, learns_on, lesson_back, on_any}
use Rattle.gp_search.proofs.Logging.{may_attach}
use Rattle.gp_search.proofs.engine.Engine.log_lesson.Goals as goal

pub returns-in_err-step-clause-turning : goal.returns-in_err-step-clause-turning
returns-in_err-step-clause-turning c = subst (λ (e : Engine). IsTurning c.args.asked.now.problem.now c.args.asked.now.query.now e) (sym c.learned_step.ensures.same) c.requires.turning

pub returns-in_err-step-clause-err : goal.returns-in_err-step-clause-err
returns-in_err-step-clause-err c = on_any _ (keeps_same c.args.self.now c.learned_step.new.self c.learned_step.ensures.same)

pub back_to-requires-clause-turning : goal.back_to-requires-clause-turning
back_to-requires-clause-turning c = subst (λ (e : Engine). IsTurning c.args.asked.now.problem.now c.args.asked.now.query.now e) (sym c.learned_step.ensures.same) c.requires.turning

pub back_to-requires-clause-below : goal.back_to-requires-clause-below
back_to-requires-clause-below c = subst (λ (e : Engine). c.in_ok-step.field-0.level < e.solver.level) (sym c.learned_step.ensures.same) c.in_ok-step.ensures.step.below

pub keep-requires-clause-lesson : goal.keep-requires-clause-lesson
keep-requires-clause-lesson c =
    lesson_back c.args.asked.now.problem.now c.args.asked.now.query.now c.learned_step.new.self c.back_to.new.self c.in_ok-step.field-0.step c.back_to.ensures.back.keeps
    (subst (λ (e : Engine). IsLesson c.args.asked.now.problem.now c.args.asked.now.query.now e.log.items e.begins c.in_ok-step.field-0.step) (sym c.learned_step.ensures.same) c.in_ok-step.ensures.step.tightened.lesson)

pub keep-requires-clause-may : goal.keep-requires-clause-may
keep-requires-clause-may c =
    let taught : IsLearnedStep c.args.asked.now.problem.now c.args.asked.now.query.now c.learned_step.new.self c.in_ok-step.field-0.step c.in_ok-step.field-0.level =
    subst (λ (e : Engine). IsLearnedStep c.args.asked.now.problem.now c.args.asked.now.query.now e c.in_ok-step.field-0.step c.in_ok-step.field-0.level) (sym c.learned_step.ensures.same) c.in_ok-step.ensures.step in
    may_attach c.learned_step.new.self.solver c.back_to.new.self.solver _ _ c.back_to.ensures.back.solver taught.tightened.all_false taught.tightened.point taught.highest taught.below

pub returns-in_err-keep-clause-err : goal.returns-in_err-keep-clause-err
returns-in_err-keep-clause-err c =
    on_any _ (keeps_on c.args.self.now c.back_to.new.self c.keep.new.self
    (keeps_on c.args.self.now c.learned_step.new.self c.back_to.new.self (keeps_same c.args.self.now c.learned_step.new.self c.learned_step.ensures.same) c.back_to.ensures.back.keeps) c.in_err-keep.ensures.err)

pub returns-clause-ok : goal.returns-clause-ok
returns-clause-ok c =
    let learns = learns_on c.args.self.now c.learned_step.new.self c.back_to.new.self c.keep.new.self _ c.learned_step.ensures.same c.back_to.ensures.back c.in_ok-keep.ensures.ok in
    record {
      entry = learns.entry;
      log = c.restart.ensures.same.log ∙ learns.log;
      begins = c.restart.ensures.same.begins ∙ learns.begins;
      learned = c.restart.ensures.same.learned ∙ learns.learned;
      order = c.restart.ensures.order ∙ learns.order;
    }
