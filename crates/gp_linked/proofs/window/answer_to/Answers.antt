-- A model gives a schedule, a refutation shows that there is none, and a spent budget leaves its log.
use Rattle.std.proofs.Common.{◌≤◌, ◌∙◌, sym, subst, [], ◌∷◌, length}
use Rattle.gp_certificate.specs.Certificate.{Refutes}
use Rattle.gp_clause.specs.declared.problem.Problem.{Problem}
use Rattle.gp_clause.specs.Valuation.{Meets}
use Rattle.gp_constraint.specs.ByPlace.{IsByPlace}
use Rattle.gp_constraint.specs.Extended.{nothing_asked}
use Rattle.gp_link.specs.LinkProblem.{link_problem_of}
use Rattle.gp_window.specs.WindowForm.{IsWindow, WindowForm}
use Rattle.gp_workers.specs.declared.work.WorkAnswer.{WorkAnswer}
use Rattle.gp_workers.specs.Work.{IsAnswerTo}
use Rattle.gp_linked.specs.Answered.{IsAnswer}
use Rattle.gp_linked.specs.Spent.{IsSpentAlone}
use Rattle.gp_linked.proofs.Answering.{can_be_asked, few_clauses, unlinkable}
use Rattle.gp_linked.proofs.Asked.{spent_alone}
use Rattle.gp_linked.proofs.window.answer_to.Goals as goal

pub ask-requires : goal.ask-requires
ask-requires c =
    can_be_asked c.extensions_mean.ensures c.problems_are_valid.ensures c.links_are_valid.ensures c.args.extended.now.window c.args.next.now c.problem-problem.result.now c.args.budget
    (c.problem-problem.ensures ∙ c.requires.problem) c.requires.sized c.requires.budget.0 c.requires.budget.1

pub returns-in_ok-schedule-in-Model : goal.returns-in_ok-schedule-in-Model
returns-in_ok-schedule-in-Model c =
    let window : WindowForm = c.args.extended.now.window in
    let own = c.in_ok-asked.asked.own in
    let told = subst (λ (a : WorkAnswer). IsAnswerTo c.problem-problem.result.now nothing_asked c.args.budget (own ∷ []) 0 a) c.in-Model.is c.in_ok-asked.ensures.answers in
    let meets = subst (λ (p : Problem). Meets p nothing_asked c.in-Model.valuation) (c.problem-problem.ensures ∙ c.requires.problem) told in
    let is : IsWindow window = subst IsWindow c.window-window.ensures c.comes_from_recording.ensures in
    let order = subst (λ (w : WindowForm). IsByPlace w c.in-Model.valuation c.in_ok-schedule-in-Model.field-0.events) c.window-window.ensures c.in_ok-schedule-in-Model.ensures in
    c.links_are_answered.ensures.links window c.args.next.now nothing_asked c.in-Model.valuation c.in_ok-schedule-in-Model.field-0.events is c.comes_from_recording-2.ensures meets order

pub certificate_of-certificate-requires-clause-few : goal.certificate_of-certificate-requires-clause-few
certificate_of-certificate-requires-clause-few c =
    let next : WindowForm = c.args.next.now in
    subst (λ (p : Problem). length p.clauses ≤ 500000) (sym (c.problem-problem.ensures ∙ c.requires.problem)) (few_clauses c.extensions_mean.ensures c.args.extended.now.window next c.requires.sized)

pub certificate_of-certificate-requires-clause-refuted : goal.certificate_of-certificate-requires-clause-refuted
certificate_of-certificate-requires-clause-refuted c =
    let own = c.in_ok-asked.asked.own in
    subst (λ (a : WorkAnswer). IsAnswerTo c.problem-problem.result.now nothing_asked c.args.budget (own ∷ []) 0 a) c.in-Refuted.is c.in_ok-asked.ensures.answers

pub returns-in_ok-certificate-in-Refuted : goal.returns-in_ok-certificate-in-Refuted
returns-in_ok-certificate-in-Refuted c =
    let window : WindowForm = c.args.extended.now.window in
    let next : WindowForm = c.args.next.now in
    let certificate = c.in_ok-certificate-in-Refuted.field-0 in
    let refutes : Refutes (link_problem_of window next) nothing_asked certificate =
    subst (λ (p : Problem). Refutes p nothing_asked certificate) (c.problem-problem.ensures ∙ c.requires.problem) c.in_ok-certificate-in-Refuted.ensures in
    let is : IsWindow window = subst IsWindow c.window-window.ensures c.comes_from_recording.ensures in (
      unlinkable c.refuted_means.ensures c.links_are_answered.ensures window next certificate is c.comes_from_recording-2.ensures c.requires.sized refutes,
      refutes,
    )

pub returns-in-Spent : goal.returns-in-Spent
returns-in-Spent c =
    let window : WindowForm = c.args.extended.now.window in
    let next : WindowForm = c.args.next.now in
    let asked = c.in_ok-asked.ensures in
    let own = c.in_ok-asked.asked.own in
    let told = subst (λ (a : WorkAnswer). IsAnswerTo c.problem-problem.result.now nothing_asked c.args.budget (own ∷ []) 0 a) c.in-Spent.is asked.answers in
    let spent : IsSpentAlone c.problem-problem.result.now c.args.budget own.log c.in-Spent.from c.in-Spent.to =
    spent_alone c.problem-problem.result.now c.args.budget own _ c.in-Spent.from c.in-Spent.to told asked.worked asked.once asked.alone in
    subst (IsAnswer window next c.args.budget) (sym c.undecided.ensures)
    (subst (λ (p : Problem). IsSpentAlone p c.args.budget own.log c.in-Spent.from c.in-Spent.to) (c.problem-problem.ensures ∙ c.requires.problem) spent)
