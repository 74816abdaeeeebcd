use Rattle.std.proofs.Common.{length}
use Rattle.gp_analysis.proofs.Windows.{AreRecorded}
use Rattle.gp_analysis.proofs.analysing.recorded_left.Given as goal

abbrev pub decreases-loop-records : goal.decreases-loop-records
decreases-loop-records g l = length l.windows

abbrev pub invariant-loop-records : goal.invariant-loop-records
invariant-loop-records g l =
    AreRecorded (g.Q.Question.form l.task.question.now) l.task.telling l.task.workers l.task.budget l.initial.windows l.windows l.records.items
