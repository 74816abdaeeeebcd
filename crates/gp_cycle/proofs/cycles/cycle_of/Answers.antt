use Rattle.std.proofs.Common.{◌+◌, refl, arith}
use Rattle.gp_cycle.specs.Cycle.{cycle_of}
use Rattle.gp_cycle.proofs.Spared.{found_first, tried_in_vain}
use Rattle.gp_cycle.proofs.cycles.cycle_of.Goals as goal

pub returns-in-Some : goal.returns-in-Some
returns-in-Some c =
    found_first c.args.orders.now c.loop-place.place (cycle_of c.args.orders.now) c.in_ok-cycle.field-0 c.in-Some.cycle (omega (arith, c.loop-place-test.true)) c.loop-place.invariant
    c.in_ok-cycle.ensures c.in-Some.is

pub loop-place-preserved : goal.loop-place-preserved
loop-place-preserved c =
    tried_in_vain c.args.orders.now c.loop-place.place (c.loop-place.place + 1) (cycle_of c.args.orders.now) c.in_ok-cycle.field-0 refl (omega (arith, c.loop-place-test.true))
    c.loop-place.invariant c.in_ok-cycle.ensures c.in_default.is
