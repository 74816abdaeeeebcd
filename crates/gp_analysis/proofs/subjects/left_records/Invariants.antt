use Rattle.std.proofs.Common.{length}
use Rattle.gp_analysis.specs.Certificates.{certificates_all, steps_by}
use Rattle.gp_analysis.proofs.SubjectsTold.{AreTelling}
use Rattle.gp_analysis.proofs.subjects.left_records.Given as goal

abbrev pub invariant-loop-subject : goal.invariant-loop-subject
invariant-loop-subject g l =
    AreTelling (g.Q.Question.form l.task.question.now) (g.Q.Question.lists l.task.question.now) (g.Q.Question.window_in l.encoded) l.task.budget l.certifying.source.records.now (steps_by l.certifying.moved)
    (certificates_all l.certifying.source.clauses l.certifying.source.gained l.certifying.source.records.now l.fn.listed l.fn.answers) l.left l.listed l.answers l.own

abbrev pub decreases-loop-subject : goal.decreases-loop-subject
decreases-loop-subject g l = length l.left
