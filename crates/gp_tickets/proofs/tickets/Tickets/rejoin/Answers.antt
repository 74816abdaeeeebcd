-- Two drawers that were told become one, and it looks once.
use Rattle.std.proofs.Common.{◌≡◌, ◌+◌, ◌∙◌, ap, arith}
use Rattle.gp_tickets.proofs.Steps.{joins, looks}
use Rattle.gp_tickets.proofs.tickets.Tickets.rejoin.Goals as goal

pub join_seat-requires : goal.join_seat-requires
join_seat-requires c = (c.requires.into.0.table, c.requires.other.0.table, c.args.other.bare, omega (arith, c.args.self.now.words), joins _ _ _ _ _ _ c.requires.into.1.0)

pub load-requires : goal.load-requires
load-requires c =
    let drawers : c.join_seat.new.seat.me.0.drawers ≡ c.args.into.now.seat.me.0.drawers + c.args.other.seat.me.0.drawers = ap (λ me. me.0.drawers) c.join_seat.ensures.2 in
    (c.join_seat.ensures.0 ∙ c.requires.into.0.table, omega (arith, c.args.self.now.words), looks _ _ _ _ _ (omega (arith, drawers, c.requires.into.1.0)))
