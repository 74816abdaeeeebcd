use Rattle.gp_difference.proofs.OrderLemmas.{has_all}
use Rattle.gp_difference.proofs.order.Order.at.Goals as goal

pub returns-clause-all : goal.returns-clause-all
returns-clause-all c = rw (← c.self.view_is) (has_all c.self.inside.points.items c.self.inside.spots.items c.self.invariant)
