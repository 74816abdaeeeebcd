-- A drawer that was not told yet may take the step.
use Rattle.std.proofs.Common.{◌<◌, arith}
use Rattle.gp_tickets.proofs.Steps.{draws}
use Rattle.gp_tickets.proofs.tickets.Tickets.draw.Goals as goal

pub fetch_add-found-requires : goal.fetch_add-found-requires
fetch_add-found-requires c =
    let one = c.args.drawer.now.told_is.none c.if-drawer.false in
    let unfinished : c.args.drawer.now.seat.me.0.nones < c.args.drawer.now.seat.me.0.drawers = omega (arith, one.0, one.1) in
    (c.requires.table, omega (arith, c.args.self.now.words), draws _ _ _ _ _ unfinished)
