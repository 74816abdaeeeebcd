use Rattle.std.proofs.Common.{◌≡◌, ◌-◌, All, length}
use Rattle.gp_window.specs.Ahead.{AreAhead}
use Rattle.gp_tickets.specs.Drawn.{numbers_of}
use Rattle.gp_tickets.specs.Tickets.{IsSingle, hand_of}
use Rattle.gp_analysis.specs.Drawn.{RecordsOwn}
use Rattle.gp_analysis.specs.Task.{IsOrder}
use Rattle.gp_analysis.proofs.drawn.record_all.Given as goal

abbrev pub decreases-loop-number : goal.decreases-loop-number
decreases-loop-number g l = l.tickets.count - length (hand_of l.drawer).drawn

abbrev pub invariant-loop-number : goal.invariant-loop-number
invariant-loop-number g l = record {
  ahead : AreAhead l.recording l.ahead;
  order : IsOrder l.task.workers l.order;
  single : IsSingle l.tickets 0 l.drawer;
  numbers : numbers_of l.made.items ≡ (hand_of l.drawer).drawn;
  records : All (RecordsOwn (g.Q.Question.form l.task.question.now) l.task.telling l.recording l.task.workers l.task.budget) l.made.items;
}
