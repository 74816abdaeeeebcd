-- Two drawers that were told become one.
use Rattle.gp_tickets.proofs.Parts.{both_drawn}
use Rattle.gp_tickets.proofs.drawn.Drawn.take.Goals as goal

pub returns-clause-drawn : goal.returns-clause-drawn
returns-clause-drawn g c = both_drawn c.args.tickets.now c.args.self.now c.args.other _ c.requires.own c.requires.other c.in_ok-append.ensures.items c.rejoin.ensures.drawer c.rejoin.ensures.both
