-- No window asks too much.
use Rattle.std.proofs.Common.{sym, subst}
use Rattle.gp_window.specs.WindowForm.{WindowForm}
use Rattle.gp_analysis.specs.Recorded.{CanBeAnswered}
use Rattle.gp_analysis.proofs.Windows.{one_within}
use Rattle.gp_analysis.proofs.drawn.recorded_next.Goals as goal

pub window_record-requires-clause-can : goal.window_record-requires-clause-can
window_record-requires-clause-can g c _ _ =
    let task = c.args.task.now in
    let question = g.Q.Question.form task.question.now in
    subst (λ (window : WindowForm). CanBeAnswered question task.budget window) (sym c.in_ok-window.ensures.window)
    (one_within question task.workers task.budget c.args.recording.now c.args.k c.requires.k.0 c.requires.k.1 c.requires.can)
