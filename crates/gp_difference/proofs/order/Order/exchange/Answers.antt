use Rattle.std.proofs.Common.{◌<◌, List, ℕ, length, sym, subst, arith}
use Rattle.std.proofs.lemmas.List.{get_or_read}
use Rattle.gp_difference.proofs.OrderLemmas.{exchanged}
use Rattle.gp_difference.proofs.order.Order.exchange.Goals as goal

pub invariant_of-self : goal.invariant_of-self
invariant_of-self c =
    let points = c.self.inside.points.items in
    let one_in : c.args.one < length points = subst (λ (ps : List ℕ). c.args.one < length ps) (sym c.self.view_is) c.requires.one in
    let other_in : c.args.other < length points = subst (λ (ps : List ℕ). c.args.other < length ps) (sym c.self.view_is) c.requires.other in
    rw (c.swap.ensures.items, c.swap-2.ensures.items) (exchanged points c.self.inside.spots.items c.args.one c.args.other c.index.result.now c.index-2.result.now c.self.invariant one_in other_in
    (get_or_read points c.args.one _ (omega (arith, one_in, c.self.inside.points.ok.0)) c.index.ensures 0)
    (get_or_read points c.args.other _ (omega (arith, other_in, c.self.inside.points.ok.0)) c.index-2.ensures 0))
