use Rattle.std.proofs.Common.{◌≡◌, ◌≤◌, ◌+◌, length}
use Rattle.gp_analysis.specs.Tickets.{subjects_count}
use Rattle.gp_analysis.proofs.counting.subjects_count.Given as goal

abbrev pub decreases-loop-subject : goal.decreases-loop-subject
decreases-loop-subject g l = length l.left

abbrev pub invariant-loop-subject : goal.invariant-loop-subject
invariant-loop-subject g l = record {
  count : l.count + subjects_count (g.Q.Question.form l.question) l.window l.number l.left ≡ subjects_count (g.Q.Question.form l.question) l.window 0 (g.Q.Question.form l.question).subjects;
  few : l.number + length l.left ≤ 64;
}
