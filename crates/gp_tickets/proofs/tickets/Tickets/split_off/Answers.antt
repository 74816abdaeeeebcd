-- As long as it stands for several drawers, one can be handed over.
use Rattle.std.proofs.Common.{◌≡◌, ◌-◌, ap, arith}
use Rattle.gp_tickets.proofs.Steps.{splits}
use Rattle.gp_tickets.proofs.tickets.Tickets.split_off.Goals as goal

pub split_seat-one-requires : goal.split_seat-one-requires
split_seat-one-requires c =
    let drawers : c.parts.seat.me.0.drawers ≡ c.args.self.now.crew - c.parts.counter = ap (λ me. me.0.drawers) c.parts.invariant.seat in
    (c.parts.invariant.same, omega (arith, c.args.self.now.words), splits _ _ _ _ (omega (arith, drawers, c.parts-test.true)) (ap (λ me. me.0.nones) c.parts.invariant.seat))
