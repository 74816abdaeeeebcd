-- A window and the next that are not too large are answered by their problem, and others are told so.
use Rattle.std.proofs.Common.{◌≡◌, ◌∙◌, ap, sym, subst}
use Rattle.std.specs.Prelude.{Result, Ok, Err, IfOk}
use Rattle.std.proofs.lemmas.Result.{IfOk-weaker}
use Rattle.gp_window.specs.WindowForm.{WindowForm}
use Rattle.gp_constraint.specs.Extending.{ExtendedForm}
use Rattle.gp_link.specs.declared.fault.LinkFault.{LinkFault}
use Rattle.gp_link.specs.LinkProblem.{link_problem_of}
use Rattle.gp_linked.specs.declared.answer.LinkAnswer.{LinkAnswer}
use Rattle.gp_linked.specs.Answered.{AnswersBy, IsAnswer}
use Rattle.gp_linked.specs.Due.{IsSized, sized_due}
use Rattle.gp_linked.proofs.Due.{fault_apart, is_due}
use Rattle.gp_linked.proofs.window.link_window.Goals as goal

pub answer_to-answer-requires-clause-problem : goal.answer_to-answer-requires-clause-problem
answer_to-answer-requires-clause-problem c =
    let next : WindowForm = c.args.next.now in
    let due : ◌≡◌ {A = Result ExtendedForm LinkFault} (Ok c.in-Ok.extended) (sized_due c.args.window next) = c.in-Ok.ensures (λ e. cc) in
    let own = is_due c.args.window next c.in-Ok.extended (sym due) in
    ap (λ (form : ExtendedForm). form.problem) own.same ∙ ap (λ (w : WindowForm). link_problem_of w next) (sym (ap (λ (form : ExtendedForm). form.window) own.same))

pub answer_to-answer-requires-clause-sized : goal.answer_to-answer-requires-clause-sized
answer_to-answer-requires-clause-sized c =
    let next : WindowForm = c.args.next.now in
    let due : ◌≡◌ {A = Result ExtendedForm LinkFault} (Ok c.in-Ok.extended) (sized_due c.args.window next) = c.in-Ok.ensures (λ e. cc) in
    let own = is_due c.args.window next c.in-Ok.extended (sym due) in
    subst (λ (w : WindowForm). IsSized w next) (sym (ap (λ (form : ExtendedForm). form.window) own.same)) own.sized

pub returns-in-Ok : goal.returns-in-Ok
returns-in-Ok c =
    let next : WindowForm = c.args.next.now in
    let due : ◌≡◌ {A = Result ExtendedForm LinkFault} (Ok c.in-Ok.extended) (sized_due c.args.window next) = c.in-Ok.ensures (λ e. cc) in
    let own = is_due c.args.window next c.in-Ok.extended (sym due) in
    let answer : IfOk c.answer_to-answer.result (λ (link : LinkAnswer). IsAnswer c.args.window next c.args.budget link) =
    subst (λ (w : WindowForm). IfOk c.answer_to-answer.result (λ (link : LinkAnswer). IsAnswer w next c.args.budget link)) (ap (λ (form : ExtendedForm). form.window) own.same) c.answer_to-answer.ensures in
    subst (λ (d : Result ExtendedForm LinkFault). IfOk c.answer_to-answer.result (λ (link : LinkAnswer). AnswersBy c.args.window next c.args.budget d link)) due answer

pub returns-in-Err : goal.returns-in-Err
returns-in-Err c =
    let next : WindowForm = c.args.next.now in
    let fault : LinkFault = c.in-Err.fault in
    IfOk-weaker _ _ _ (λ (link : LinkAnswer) tells.
    let due : ◌≡◌ {A = Result ExtendedForm LinkFault} (Err fault) (sized_due c.args.window next) = c.in-Err.ensures (fault_apart fault link tells) in
    subst (λ (d : Result ExtendedForm LinkFault). AnswersBy c.args.window next c.args.budget d link) due tells) c.answer_of.ensures
