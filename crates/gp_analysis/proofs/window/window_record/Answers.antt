-- What is encoded is the window.
use Rattle.std.proofs.Common.{sym, subst, IfOk}
use Rattle.gp_window.specs.WindowForm.{WindowForm}
use Rattle.gp_analysis.specs.Recorded.{CanBeAnswered}
use Rattle.gp_analysis.specs.Telling.{RecordsAs}
use Rattle.gp_analysis.proofs.window.window_record.Goals as goal

pub answered_record-requires-clause-can : goal.answered_record-requires-clause-can
answered_record-requires-clause-can g c _ _ =
    let task = c.args.task.now in
    subst (CanBeAnswered (g.Q.Question.form task.question.now) task.budget) (sym c.in-Ok.ensures.window) c.requires.can

pub returns-in-Ok-clause-records : goal.returns-in-Ok-clause-records
returns-in-Ok-clause-records g c =
    let task = c.args.task.now in
    subst (λ (w : WindowForm). IfOk c.answered_record.result (λ made. RecordsAs (g.Q.Question.form task.question.now) task.telling task.workers task.budget w made.0)) c.in-Ok.ensures.window c.answered_record.ensures.records
