use Rattle.std.proofs.Common.{length, ◌∙◌, ap}
use Rattle.std.proofs.lemmas.List.{with_items_is}
use Rattle.gp_queue.proofs.Orders.{opened, ring_parted, order_moved, written_back, spelt_back, length_spelt}
use Rattle.gp_queue.proofs.order.LinkQueue.to_front.Goals as goal

pub move_to_front-requires-clause-ring : goal.move_to_front-requires-clause-ring
move_to_front-requires-clause-ring c =
    let queue = opened _ _ _ c.self.view_is c.self.invariant in
    ring_parted _ _ _ _ _ _ queue c.requires c.deref_mut.ensures.value c.deref_mut-2.ensures.value

pub invariant_of-self : goal.invariant_of-self
invariant_of-self c =
    let queue = opened _ _ _ c.self.view_is c.self.invariant in
    let new = order_moved _ _ _ _ _ _ _ _ queue c.requires c.deref_mut.ensures.value c.deref_mut-2.ensures.value c.move_to_front.auto.next c.move_to_front.ensures in
    written_back _ _ _ _ _
    (with_items_is c.self.inside.next c.move_to_front.new.next (c.move_to_front.auto.next ∙ c.deref_mut.ensures.len))
    (with_items_is c.self.inside.prev c.move_to_front.new.prev (c.move_to_front.auto.prev ∙ c.deref_mut-2.ensures.len)) new

pub returns-clause-moved : goal.returns-clause-moved
returns-clause-moved c =
    let queue = opened _ _ _ c.self.view_is c.self.invariant in
    let new = order_moved _ _ _ _ _ _ _ _ queue c.requires c.deref_mut.ensures.value c.deref_mut-2.ensures.value c.move_to_front.auto.next c.move_to_front.ensures in
    spelt_back _ _ _ _ (with_items_is c.self.inside.next c.move_to_front.new.next (c.move_to_front.auto.next ∙ c.deref_mut.ensures.len)) new

pub returns-clause-len : goal.returns-clause-len
returns-clause-len c =
    let queue = opened _ _ _ c.self.view_is c.self.invariant in
    length_spelt _ _ (length c.args.self.now)
    (with_items_is c.self.inside.next c.move_to_front.new.next (c.move_to_front.auto.next ∙ c.deref_mut.ensures.len))
    (c.move_to_front.auto.next ∙ ap length c.deref_mut.ensures.value ∙ queue.size)
