use Rattle.std.proofs.Common.{◌<◌, ◌^◌, length, arith}
use Rattle.gp_witness.specs.Placed.{placed_of}
use Rattle.gp_witness.proofs.Walking.{one_more, short_here}
use Rattle.gp_witness.proofs.executed.placed_events.Goals as goal

pub add_placed-requires-clause-short : goal.add_placed-requires-clause-short
add_placed-requires-clause-short c =
    let short = short_here c.args.window.now (c.windows_are_formed.ensures c.args.window.now c.segments-segment-items.ensures.window) c.segments-segment-items.result.now c.segments-segment-items.ensures.value c.loop-place.place c.segment-item.result c.loop-place-test.true c.segment-item.is in
    rw c.as_slice.ensures short

pub loop-place-preserved : goal.loop-place-preserved
loop-place-preserved c =
    let short : length c.segment-item.result < 2 ^ 32 = short_here c.args.window.now (c.windows_are_formed.ensures c.args.window.now c.segments-segment-items.ensures.window) c.segments-segment-items.result.now c.segments-segment-items.ensures.value c.loop-place.place c.segment-item.result c.loop-place-test.true c.segment-item.is in
    record {
      placed = rw c.len-number.ensures (one_more (placed_of c.args.valuation.now) c.segments-segment-items.result.now c.loop-place.place c.loop-place.number c.segment-item.result c.loop-place.placed.items c.add_placed.new.placed.items _ c.loop-place-test.true c.segment-item.is c.loop-place.invariant.placed (rw c.as_slice.ensures at c.in_ok-add_placed.ensures));
      count = omega (arith, short, c.len-number.ensures);
    }
