use Rattle.std.proofs.Common.{◌+◌, ◌≤◌, pos, ◌<ℤ◌, arith}
use Rattle.std.proofs.lemmas.Int.{ints}
use Rattle.gp_difference.specs.Falls.{fall_at}
use Rattle.gp_difference.proofs.HeapLemmas.{enters, leaves_more, leaves_some, leaves_last, not_in_heap}
use Rattle.gp_difference.proofs.falls.settle.Goals as goal

pub returns-then-number-gt0 : goal.returns-then-number-gt0
returns-then-number-gt0 c =
    let some : pos 0 <ℤ fall_at c.args.numbers.now c.args.order.now c.args.spot = omega (arith, ints, c.requires.number, c.ranges.number.sfits, c.if-number-gt0.true) in
    let out : c.args.count ≤ c.args.spot = not_in_heap _ _ c.args.count c.args.spot c.args.before c.requires.heaped (omega (arith, ints, c.ranges.before.sfits, c.if-before-gt0.false)) in
    c.rise.ensures (c.args.count + 1) (rw c.exchange.ensures (enters _ _ c.args.count c.args.spot c.args.before c.requires.heaped out some))

pub mend-requires-then-spot-last-clause-heaped : goal.mend-requires-then-spot-last-clause-heaped
mend-requires-then-spot-last-clause-heaped c = rw c.exchange-2.ensures (leaves_more _ _ c.args.count c.args.spot c.args.before _ c.requires.heaped
    (omega (arith, ints, c.ranges.before.sfits)) (omega (arith, ints, c.requires.number, c.ranges.number.sfits, c.if-number-gt0.false)) c.if-spot-last.true)

pub mend-requires-then-spot-last-clause-number : goal.mend-requires-then-spot-last-clause-number
mend-requires-then-spot-last-clause-number c = rw c.exchange-2.ensures (leaves_some _ _ c.args.count c.args.spot c.args.before c.requires.heaped c.if-spot-last.true)

pub returns-else-spot-last : goal.returns-else-spot-last
returns-else-spot-last c = rw c.exchange-2.ensures (leaves_last _ _ c.args.count c.args.spot c.args.before c.requires.heaped
    (omega (arith, ints, c.ranges.before.sfits, c.if-before-le0.false)) (omega (arith, ints, c.requires.number, c.ranges.number.sfits, c.if-number-gt0.false)) c.if-spot-last.false)
