use Rattle.std.proofs.Common.{◌≡◌, ◌+◌, All, IfOk, length}
use Rattle.gp_tickets.specs.Drawn.{drawers_of}
use Rattle.gp_analysis.specs.Drawn.{RecordsDrawn}
use Rattle.gp_analysis.proofs.drawn.gather.Given as goal

abbrev pub decreases-loop-part : goal.decreases-loop-part
decreases-loop-part g l = length l.parts.items

abbrev pub invariant-loop-part : goal.invariant-loop-part
invariant-loop-part g l = record {
  drawers : drawers_of l.all + length l.parts.items ≡ length l.fn.parts.items;
  own : RecordsDrawn (g.Q.Question.form l.task.question.now) l.task.telling l.tickets l.recording l.task.workers l.task.budget (drawers_of l.all) l.all;
  left : All (λ part. IfOk part (RecordsDrawn (g.Q.Question.form l.task.question.now) l.task.telling l.tickets l.recording l.task.workers l.task.budget 1)) l.parts.items;
}
