use Rattle.std.proofs.Common.{◌≡◌, ◌∙◌, ap, List, Option, Some}
use Rattle.std.specs.Prelude.{slice_get}
use Rattle.std.proofs.lemmas.Option.{get_or_from_slice_get}
use Rattle.std.proofs.lemmas.Result.{IfOk-weaker}
use Rattle.gp_cycle.specs.declared.order.Order.{Order}
use Rattle.gp_cycle.specs.Cycle.{cycle_at}
use Rattle.gp_cycle.proofs.Spared.{none_through}
use Rattle.gp_cycle.proofs.cycles.cycle_from.Goals as goal

pub returns-then-is_dead_end : goal.returns-then-is_dead_end
returns-then-is_dead_end c = λ order at.
    none_through c.args.orders.now c.args.counts.now c.args.place order c.requires.spares at (c.is_dead_end.ensures.0 c.if-is_dead_end.true)

pub returns : goal.returns
returns c =
    let none : Order = record { one = record { thread = 0; index = 0 }; other = record { thread = 0; index = 0 } } in
    IfOk-weaker c.cycle_at.result _
    (λ (cycle : Option (List Order)). (order : Order) → slice_get c.args.orders.now c.args.place ≡ Some order → cycle ≡ cycle_at c.args.orders.now order)
    (λ cycle is order at. is ∙ ap (cycle_at c.args.orders.now) (get_or_from_slice_get c.args.orders.now c.args.place order none at)) c.cycle_at.ensures
