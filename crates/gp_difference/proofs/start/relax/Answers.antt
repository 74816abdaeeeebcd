use Rattle.std.proofs.Common.{◌^◌, ℤ, pos, ◌+ℤ◌, ◌≤ℤ◌, w64, to_z, of_z, arith}
use Rattle.std.proofs.lemmas.Int.{ints}
use Rattle.std.proofs.lemmas.List.Elements.{All-set}
use Rattle.gp_difference.proofs.start.relax.Goals as goal

pub returns-then-place-places : goal.returns-then-place-places
returns-then-place-places c =
    let x = to_z w64 (of_z w64 c.max-place.result) in
    let was = c.requires.fresh c.args.edge.a (pos 0) c.requires.within.first in
    let low : pos 0 ≤ℤ (x +ℤ pos (2 ^ 28)) = omega (arith, ints, c.max-place.ensures.other_bound, c.max-place.type_inv, c.if-place-places.true, was.0, was.1) in
    let high : x ≤ℤ pos 0 = omega (arith, ints, c.max-place.ensures.other_bound, c.max-place.type_inv, c.if-place-places.true, was.0, was.1) in
    All-set (λ (place : ℤ). (pos 0 ≤ℤ (place +ℤ pos (2 ^ 28))) × (place ≤ℤ pos 0)) c.args.places.now c.args.edge.a x (low, high) c.requires.fresh
