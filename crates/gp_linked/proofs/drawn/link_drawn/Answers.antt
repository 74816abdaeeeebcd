-- A single drawer that was told that no ticket is left has drawn.
use Rattle.gp_tickets.specs.TicketLaws.{single_has_drawn}
use Rattle.gp_linked.proofs.drawn.link_drawn.Goals as goal

pub returns : goal.returns
returns c = record {
  own = single_has_drawn c.args.tickets.now _ c.in_ok-made.ensures.drawer c.in_ok-made.ensures.numbers;
  stands_for = c.in_ok-made.ensures.drawer.one;
  answers = c.in_ok-made.ensures.answers;
}
