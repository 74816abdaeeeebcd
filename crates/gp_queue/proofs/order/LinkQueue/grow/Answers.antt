use Rattle.std.proofs.Common.{◌≡◌, ◌<◌, ◌≤◌, ◌^◌, length, ◌∙◌, arith, max}
use Rattle.std.proofs.lemmas.List.{with_items_is}
use Rattle.gp_queue.proofs.Orders.{opened, ring_resized, order_grown, written_back, spelt_back, length_spelt}
use Rattle.gp_queue.proofs.order.LinkQueue.grow.Goals as goal

pub link_rest-requires-clause-ring : goal.link_rest-requires-clause-ring
link_rest-requires-clause-ring c =
    let queue = opened _ _ _ c.self.view_is c.self.invariant in
    let le : c.len-len.result ≤ c.args.n = omega arith in (
      c.args.self.now,
      ring_resized _ _ _ _ _ _ _ _ c.args.n _ _ _ queue c.len-len.ensures.length le c.self.inside.next.ok.0 c.in_ok-reserve.ensures.items c.reserve.new.self.ok.0
          c.in_ok-resize.ensures.items c.in_ok-resize-2.ensures.items c.deref_mut.ensures.value c.deref_mut-2.ensures.value,
    )

pub invariant_of-self-2 : goal.invariant_of-self-2
invariant_of-self-2 c =
    let queue = opened _ _ _ c.self.view_is c.self.invariant in
    let le : c.len-len.result ≤ c.args.n = omega arith in
    let small : c.args.n < 2 ^ 32 = omega arith in
    let ring = ring_resized _ _ _ _ _ _ _ _ c.args.n _ _ _ queue c.len-len.ensures.length le c.self.inside.next.ok.0 c.in_ok-reserve.ensures.items c.reserve.new.self.ok.0
    c.in_ok-resize.ensures.items c.in_ok-resize-2.ensures.items c.deref_mut.ensures.value c.deref_mut-2.ensures.value in
    let new = order_grown _ _ _ _ _ _ _ c.args.n _ queue c.len-len.ensures.length le small
    (c.link_rest.auto.next ∙ c.deref_mut.ensures.len ∙ c.in_ok-resize.ensures.len) ring c.link_rest.ensures in
    written_back _ _ _ _ _
    (with_items_is c.resize.new.self c.link_rest.new.next (c.link_rest.auto.next ∙ c.deref_mut.ensures.len))
    (with_items_is c.resize-2.new.self c.link_rest.new.prev (c.link_rest.auto.prev ∙ c.deref_mut-2.ensures.len)) new

pub returns-clause-grown : goal.returns-clause-grown
returns-clause-grown c =
    let queue = opened _ _ _ c.self.view_is c.self.invariant in
    let le : c.len-len.result ≤ c.args.n = omega arith in
    let small : c.args.n < 2 ^ 32 = omega arith in
    let ring = ring_resized _ _ _ _ _ _ _ _ c.args.n _ _ _ queue c.len-len.ensures.length le c.self.inside.next.ok.0 c.in_ok-reserve.ensures.items c.reserve.new.self.ok.0
    c.in_ok-resize.ensures.items c.in_ok-resize-2.ensures.items c.deref_mut.ensures.value c.deref_mut-2.ensures.value in
    let new = order_grown _ _ _ _ _ _ _ c.args.n _ queue c.len-len.ensures.length le small
    (c.link_rest.auto.next ∙ c.deref_mut.ensures.len ∙ c.in_ok-resize.ensures.len) ring c.link_rest.ensures in
    spelt_back _ _ _ _ (with_items_is c.resize.new.self c.link_rest.new.next (c.link_rest.auto.next ∙ c.deref_mut.ensures.len)) new

pub returns-clause-len : goal.returns-clause-len
returns-clause-len c =
    let most : c.args.n ≡ max (length c.args.self.now) c.args.n = omega (arith, c.len-len.ensures.length) in
    length_spelt _ _ c.args.n
    (with_items_is c.resize.new.self c.link_rest.new.next (c.link_rest.auto.next ∙ c.deref_mut.ensures.len))
    (c.link_rest.auto.next ∙ c.deref_mut.ensures.len ∙ c.in_ok-resize.ensures.len) ∙ most
