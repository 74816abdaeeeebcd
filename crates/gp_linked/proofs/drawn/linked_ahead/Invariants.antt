use Rattle.std.proofs.Common.{◌≡◌, ◌-◌, All, length}
use Rattle.gp_tickets.specs.Drawn.{numbers_of}
use Rattle.gp_tickets.specs.Tickets.{IsSingle, hand_of}
use Rattle.gp_window.specs.Ahead.{AreAhead}
use Rattle.gp_linked.specs.Drawn.{AnswersOwn}
use Rattle.gp_linked.proofs.drawn.linked_ahead.Given as goal

abbrev pub decreases-loop-number : goal.decreases-loop-number
decreases-loop-number l = l.tickets.count - length (hand_of l.drawer).drawn

abbrev pub invariant-loop-number : goal.invariant-loop-number
invariant-loop-number l = record {
  windows : AreAhead l.recording l.windows;
  nexts : AreAhead l.recording l.nexts;
  single : IsSingle l.tickets 0 l.drawer;
  numbers : numbers_of l.made.items ≡ (hand_of l.drawer).drawn;
  answers : All (AnswersOwn l.recording l.budget) l.made.items;
}
