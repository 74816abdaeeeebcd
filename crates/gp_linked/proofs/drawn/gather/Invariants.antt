use Rattle.std.proofs.Common.{◌≡◌, ◌+◌, All, IfOk, length}
use Rattle.gp_tickets.specs.Drawn.{drawers_of}
use Rattle.gp_linked.specs.Drawn.{AnswersDrawn}
use Rattle.gp_linked.proofs.drawn.gather.Given as goal

abbrev pub decreases-loop-part : goal.decreases-loop-part
decreases-loop-part l = length l.parts.items

abbrev pub invariant-loop-part : goal.invariant-loop-part
invariant-loop-part l = record {
  drawers : drawers_of l.all + length l.parts.items ≡ length l.fn.parts.items;
  own : AnswersDrawn l.tickets l.recording l.budget (drawers_of l.all) l.all;
  left : All (λ part. IfOk part (AnswersDrawn l.tickets l.recording l.budget 1)) l.parts.items;
}
