-- The windows are those of these numbers.
use Rattle.std.proofs.Common.{◌∙◌, ap, subst, suc, add-one}
use Rattle.std.proofs.lemmas.Result.{IfOk-weaker}
use Rattle.gp_window.specs.WindowForm.{WindowForm, window_of}
use Rattle.gp_linked.specs.declared.answer.LinkAnswer.{LinkAnswer}
use Rattle.gp_linked.specs.Answered.{AnswersLink}
use Rattle.gp_linked.proofs.drawn.link_next.Goals as goal

pub returns-in-Ok-clause-answers : goal.returns-in-Ok-clause-answers
returns-in-Ok-clause-answers c =
    let r = c.args.recording.now in
    let k = c.args.k in
    let after = c.in-Ok.ensures.window ∙ ap (window_of r) (add-one k) in
    IfOk-weaker _ _ _ (λ (link : LinkAnswer) is.
    subst (λ (w : WindowForm). AnswersLink w (window_of r (suc k)) c.args.budget link) c.in_ok-window.ensures.window
    (subst (λ (n : WindowForm). AnswersLink c.in_ok-window.window n c.args.budget link) after is)) c.link_window-answer.ensures
