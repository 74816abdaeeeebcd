use Rattle.std.proofs.Common.{length}
use Rattle.gp_analysis.specs.Certificates.{steps_by}
use Rattle.gp_analysis.proofs.Recordings.{IsUnderWay}
use Rattle.gp_analysis.proofs.entries.entries_of.Given as goal

abbrev pub invariant-loop-asked : goal.invariant-loop-asked
invariant-loop-asked g l =
    IsUnderWay (g.Q.Question.form l.question) (g.Q.Question.lists l.question) l.certifying.source.records.now (steps_by l.certifying.moved) (g.Q.Question.window_in l.encoded) l.subject l.fn.asked l.left l.initial.answers l.entries l.answers

abbrev pub decreases-loop-asked : goal.decreases-loop-asked
decreases-loop-asked g l = length l.left
