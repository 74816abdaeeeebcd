use Rattle.std.proofs.Common.{arith}
use Rattle.std.proofs.lemmas.Int.{ints}
use Rattle.gp_difference.proofs.falls.mend.Goals as goal

pub returns-then-number_at-before : goal.returns-then-number_at-before
returns-then-number_at-before c =
    c.rise.ensures c.args.count (c.args.before, c.requires.heaped, c.requires.spot, omega (arith, ints, c.number_at.ensures, c.number_at.type_inv, c.ranges.before.sfits, c.if-number_at-before.true))
