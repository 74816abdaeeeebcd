use Rattle.std.proofs.Common.{ℕ, ◌∙◌, sym, subst, List, ◌≤ℤ◌, arith}
use Rattle.std.proofs.lemmas.Int.{ints}
use Rattle.gp_difference.specs.Falls.{MaySink, fall_at}
use Rattle.gp_difference.proofs.HeapLemmas.{sink_ends, sink_more, number_moves}
use Rattle.gp_difference.proofs.falls.sink.Goals as goal

pub returns-then-number_at-number : goal.returns-then-number_at-number
returns-then-number_at-number c =
    let falls = c.args.numbers.now in
    let order = c.loop-spot.order in
    let spot = c.loop-spot.spot in
    let child = c.greater_below-below.result in
    let le : fall_at falls order child ≤ℤ fall_at falls order spot = omega (arith, ints, c.loop-spot.invariant.number, c.number_at.ensures, c.number_at.type_inv, c.if-number_at-number.true) in
    sink_ends falls order c.args.count spot c.loop-spot.invariant.sink (λ below is below_in.
    let h : fall_at falls order below ≤ℤ fall_at falls order child = c.greater_below-below.ensures.greatest below is below_in in
    omega (arith, ints, h, le))

pub loop-spot-preserved : goal.loop-spot-preserved
loop-spot-preserved c =
    let falls = c.args.numbers.now in
    let order = c.loop-spot.order in
    let spot = c.loop-spot.spot in
    let child = c.greater_below-below.result in
    let found = c.greater_below-below.ensures in
    let inv = c.loop-spot.invariant in
    let lt : fall_at falls order spot ≤ℤ fall_at falls order child = omega (arith, ints, inv.number, c.number_at.ensures, c.number_at.type_inv, c.if-number_at-number.false) in
    record {
      number = inv.number ∙ number_moves falls order c.exchange.new.self spot child inv.sink.1.within (omega (arith, found.within, inv.sink.1.few)) c.exchange.ensures;
      sink = subst (λ (now : List ℕ). MaySink falls now c.args.count child) (sym c.exchange.ensures) (sink_more falls order c.args.count spot child inv.sink found.below found.within lt found.greatest);
    }
