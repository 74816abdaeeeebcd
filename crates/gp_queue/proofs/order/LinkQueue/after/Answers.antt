use Rattle.gp_queue.proofs.Orders.{opened, after_read, after_is, after_is_below}
use Rattle.gp_queue.proofs.order.LinkQueue.after.Goals as goal

pub returns-clause-after : goal.returns-clause-after
returns-clause-after c =
    let queue = opened _ _ _ c.self.view_is c.self.invariant in
    after_is _ _ _ _ _ _ queue c.requires c.index.ensures c.checked_sub.ensures

pub returns-clause-split : goal.returns-clause-split
returns-clause-split c = λ front back e.
    let queue = opened _ _ _ c.self.view_is c.self.invariant in
    after_read _ _ _ _ _ _ front back queue c.requires c.index.ensures c.checked_sub.ensures e

pub returns-clause-below : goal.returns-clause-below
returns-clause-below c =
    let queue = opened _ _ _ c.self.view_is c.self.invariant in
    after_is_below _ _ _ _ _ _ queue c.requires c.index.ensures c.checked_sub.ensures
