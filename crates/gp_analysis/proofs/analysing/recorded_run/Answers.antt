-- No window of the run asks too much.
use Rattle.gp_analysis.proofs.Windows.{run_within}
use Rattle.gp_analysis.proofs.analysing.recorded_run.Goals as goal

pub recorded_left-records-requires-clause-can : goal.recorded_left-records-requires-clause-can
recorded_left-records-requires-clause-can g c _ _ =
    let task = c.args.task.now in
    run_within (g.Q.Question.form task.question.now) task.workers task.budget c.args.recording.now c.args.run c.in_ok-windows.windows c.requires.can c.requires.run c.in_ok-windows.ensures
