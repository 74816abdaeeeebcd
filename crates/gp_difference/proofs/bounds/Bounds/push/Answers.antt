use Rattle.std.proofs.Common.{◌≡◌, ◌+◌, ◌<◌, length, arith, ap}
use Rattle.std.proofs.lemmas.List.{get_or_read}
use Rattle.gp_difference.specs.Links.{BoundList}
use Rattle.gp_difference.proofs.LinkLemmas.{linked_push}
use Rattle.gp_difference.proofs.bounds.Bounds.push.Goals as goal

pub invariant_of-self : goal.invariant_of-self
invariant_of-self c =
    let inside = c.self.inside in
    let points = ap (λ (b : BoundList). b.points) c.self.view_is in
    let room = ap (λ (b : BoundList). b.room) c.self.view_is in
    let small : c.args.bound.edge.b < length inside.heads.items = omega (arith, points, c.requires.second) in
    let count : c.len.result ≡ length inside.bounds.items + 1 = omega (arith, c.len.ensures, c.push_reserved-2.ensures.len, inside.bounds.ok.0) in
    let linked = linked_push inside.bounds.items c.args.bound inside.heads.items inside.links.items c.index.result.now c.len.result
    c.self.invariant.0 small (get_or_read inside.heads.items c.args.bound.edge.b c.index.result.now small c.index.ensures 0) count in (
      rw (c.push_reserved-2.ensures.items, c.push_reserved.ensures.items) linked,
      omega (arith, c.self.invariant.1, room, c.requires.room, c.push_reserved-2.ensures.len, c.push_reserved-2.ensures.capacity),
      omega (arith, c.self.invariant.2, room, c.requires.room, c.push_reserved.ensures.len, c.push_reserved.ensures.capacity),
    )
