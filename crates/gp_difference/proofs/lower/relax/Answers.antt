use Rattle.std.proofs.Common.{◌+◌, ◌^◌, pos, ◌+ℤ◌, ◌≤ℤ◌, ◌<ℤ◌, arith, ap, sym}
use Rattle.std.proofs.lemmas.Int.{ints}
use Rattle.gp_difference.specs.declared.bound.Bound.{Bound}
use Rattle.gp_difference.specs.Places.{place_at}
use Rattle.gp_difference.proofs.RelaxLemmas.{near_bound, near_sum, relax_keeps, relax_closes, relax_fell, relax_falls}
use Rattle.gp_difference.proofs.lower.relax.Goals as goal

pub overflow_add-label : goal.overflow_add-label
overflow_add-label c =
    let near = near_bound _ _ _ c.args.number _ c.get.ensures c.requires.input c.requires.small c.requires.scan in
    let low : pos 0 ≤ℤ (c.label.result +ℤ pos (2 ^ 62 + 2 ^ 29)) = omega (arith, ints, c.label.ensures, near.second_low) in
    let high : c.label.result ≤ℤ pos 0 = omega (arith, ints, c.label.ensures, near.second_high) in
    search (arith, ints, low, high, near.low, near.high)

pub returns-then-label-clause-gives : goal.returns-then-label-clause-gives
returns-then-label-clause-gives c =
    let near = near_bound _ _ _ c.args.number _ c.get.ensures c.requires.input c.requires.small c.requires.scan in
    let value = near_sum _ _ c.label.result near c.label.ensures in
    λ done scan. relax_keeps _ _ _ done c.args.number _ (sym (ap (λ (b : Bound). b.edge) c.get.ensures)) scan
    (omega (arith, ints, near.first_low, near.first_high, value, near.second_low, near.second_high, near.low, near.high, c.label-2.ensures, c.if-label.true))

pub returns-then-edge-new-clause-gives : goal.returns-then-edge-new-clause-gives
returns-then-edge-new-clause-gives c =
    let e = c.get.result.edge in
    let q = sym (ap (λ (b : Bound). b.edge) c.get.ensures) in
    let near = near_bound _ _ _ c.args.number _ c.get.ensures c.requires.input c.requires.small c.requires.scan in
    let value = near_sum _ _ c.label.result near c.label.ensures in
    let broken : (place_at c.args.run.now.labels e.b +ℤ e.c) <ℤ place_at c.args.run.now.labels e.a =
    omega (arith, ints, near.first_low, near.first_high, value, near.second_low, near.second_high, near.low, near.high, c.label-2.ensures, c.if-label.false) in
    λ done scan. relax_closes _ _ _ done c.args.number e q c.requires.small scan broken c.if-edge-new.true

pub label-requires-3 : goal.label-requires-3
label-requires-3 c =
    let near = near_bound _ _ _ c.args.number _ c.get.ensures c.requires.input c.requires.small c.requires.scan in near.first_label

pub place-requires : goal.place-requires
place-requires c =
    let near = near_bound _ _ _ c.args.number _ c.get.ensures c.requires.input c.requires.small c.requires.scan in near.first_place

pub lower-requires-clause-places : goal.lower-requires-clause-places
lower-requires-clause-places c =
    let near = near_bound _ _ _ c.args.number _ c.get.ensures c.requires.input c.requires.small c.requires.scan in near.first_place

pub lower-requires-clause-labels : goal.lower-requires-clause-labels
lower-requires-clause-labels c =
    let near = near_bound _ _ _ c.args.number _ c.get.ensures c.requires.input c.requires.small c.requires.scan in near.first_label

pub lower-requires-clause-via : goal.lower-requires-clause-via
lower-requires-clause-via c =
    let near = near_bound _ _ _ c.args.number _ c.get.ensures c.requires.input c.requires.small c.requires.scan in near.first_via

pub lower-requires-clause-falls : goal.lower-requires-clause-falls
lower-requires-clause-falls c =
    let near = near_bound _ _ _ c.args.number _ c.get.ensures c.requires.input c.requires.small c.requires.scan in near.first_fall

pub lower-requires-clause-top : goal.lower-requires-clause-top
lower-requires-clause-top c =
    let near = near_bound _ _ _ c.args.number _ c.get.ensures c.requires.input c.requires.small c.requires.scan in near.place_high

pub fall-requires-clause-places : goal.fall-requires-clause-places
fall-requires-clause-places c =
    let near = near_bound _ _ _ c.args.number _ c.get.ensures c.requires.input c.requires.small c.requires.scan in near.first_place

pub fall-requires-clause-labels : goal.fall-requires-clause-labels
fall-requires-clause-labels c =
    let near = near_bound _ _ _ c.args.number _ c.get.ensures c.requires.input c.requires.small c.requires.scan in near.first_label

pub fall-requires-clause-via : goal.fall-requires-clause-via
fall-requires-clause-via c =
    let near = near_bound _ _ _ c.args.number _ c.get.ensures c.requires.input c.requires.small c.requires.scan in near.first_via

pub fall-requires-clause-falls : goal.fall-requires-clause-falls
fall-requires-clause-falls c =
    let near = near_bound _ _ _ c.args.number _ c.get.ensures c.requires.input c.requires.small c.requires.scan in near.first_fall

pub fall-requires-clause-top : goal.fall-requires-clause-top
fall-requires-clause-top c =
    let near = near_bound _ _ _ c.args.number _ c.get.ensures c.requires.input c.requires.small c.requires.scan in near.place_high

pub lower-requires-clause-bottom : goal.lower-requires-clause-bottom
lower-requires-clause-bottom c =
    let near = near_bound _ _ _ c.args.number _ c.get.ensures c.requires.input c.requires.small c.requires.scan in
    let value = near_sum _ _ c.label.result near c.label.ensures in
    omega (arith, ints, value, near.second_low, near.low)

pub fall-requires-clause-bottom : goal.fall-requires-clause-bottom
fall-requires-clause-bottom c =
    let near = near_bound _ _ _ c.args.number _ c.get.ensures c.requires.input c.requires.small c.requires.scan in
    let value = near_sum _ _ c.label.result near c.label.ensures in
    omega (arith, ints, value, near.second_low, near.low)

pub fall-requires-clause-room : goal.fall-requires-clause-room
fall-requires-clause-room c =
    let e = c.get.result.edge in
    let near = near_bound _ _ _ c.args.number _ c.get.ensures c.requires.input c.requires.small c.requires.scan in
    let still : place_at c.args.run.now.places e.a ≤ℤ place_at c.args.run.now.labels e.a =
    omega (arith, ints, near.first_low, near.first_high, near.place_low, near.place_high, c.label-3.ensures, c.place.ensures, c.if-label-place.false) in
    near.room still

pub fall-requires-clause-below : goal.fall-requires-clause-below
fall-requires-clause-below c =
    let e = c.get.result.edge in
    let near = near_bound _ _ _ c.args.number _ c.get.ensures c.requires.input c.requires.small c.requires.scan in
    let value = near_sum _ _ c.label.result near c.label.ensures in
    let broken : (place_at c.args.run.now.labels e.b +ℤ e.c) <ℤ place_at c.args.run.now.labels e.a =
    omega (arith, ints, near.first_low, near.first_high, value, near.second_low, near.second_high, near.low, near.high, c.label-2.ensures, c.if-label.false) in
    omega (arith, ints, value, broken, near.below)

pub returns-then-label-place-clause-gives : goal.returns-then-label-place-clause-gives
returns-then-label-place-clause-gives c =
    let e = c.get.result.edge in
    let q = sym (ap (λ (b : Bound). b.edge) c.get.ensures) in
    let near = near_bound _ _ _ c.args.number _ c.get.ensures c.requires.input c.requires.small c.requires.scan in
    let value = near_sum _ _ c.label.result near c.label.ensures in
    let broken : (place_at c.args.run.now.labels e.b +ℤ e.c) <ℤ place_at c.args.run.now.labels e.a =
    omega (arith, ints, near.first_low, near.first_high, value, near.second_low, near.second_high, near.low, near.high, c.label-2.ensures, c.if-label.false) in
    let fell : place_at c.args.run.now.labels e.a <ℤ place_at c.args.run.now.places e.a =
    omega (arith, ints, near.first_low, near.first_high, near.place_low, near.place_high, c.label-3.ensures, c.place.ensures, c.if-label-place.true) in
    λ done scan. rw c.lower.ensures (relax_fell _ _ _ done c.args.number e q c.requires.input c.requires.small scan _ value (omega (arith, ints, value, broken)) c.if-edge-new.false fell)

pub returns-clause-gives : goal.returns-clause-gives
returns-clause-gives c =
    let e = c.get.result.edge in
    let q = sym (ap (λ (b : Bound). b.edge) c.get.ensures) in
    let near = near_bound _ _ _ c.args.number _ c.get.ensures c.requires.input c.requires.small c.requires.scan in
    let value = near_sum _ _ c.label.result near c.label.ensures in
    let broken : (place_at c.args.run.now.labels e.b +ℤ e.c) <ℤ place_at c.args.run.now.labels e.a =
    omega (arith, ints, near.first_low, near.first_high, value, near.second_low, near.second_high, near.low, near.high, c.label-2.ensures, c.if-label.false) in
    let still : place_at c.args.run.now.places e.a ≤ℤ place_at c.args.run.now.labels e.a =
    omega (arith, ints, near.first_low, near.first_high, near.place_low, near.place_high, c.label-3.ensures, c.place.ensures, c.if-label-place.false) in
    λ done scan. rw c.fall.ensures (relax_falls _ _ _ done c.args.number e q c.requires.input c.requires.small scan _ value (omega (arith, ints, value, broken)) c.if-edge-new.false still)
