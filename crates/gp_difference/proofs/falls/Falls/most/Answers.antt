use Rattle.std.proofs.Common.{◌<◌, arith}
use Rattle.gp_difference.proofs.HeapLemmas.{most_none, most_some}
use Rattle.gp_difference.proofs.falls.Falls.most.Goals as goal

pub returns-then-self-eq0 : goal.returns-then-self-eq0
returns-then-self-eq0 c = rw (← c.self.view_is) (most_none c.self.inside.numbers.items c.self.inside.order c.self.inside.count c.self.invariant c.at-point.ensures.all c.if-self-eq0.true)

pub returns : goal.returns
returns c =
    let some : 0 < c.self.inside.count = omega (arith, c.if-self-eq0.false) in
    rw (← c.self.view_is) (most_some c.self.inside.numbers.items c.self.inside.order c.self.inside.count c.at-point.result c.self.invariant c.at-point.ensures.all some c.at-point.ensures.point c.at-point.ensures.within)
