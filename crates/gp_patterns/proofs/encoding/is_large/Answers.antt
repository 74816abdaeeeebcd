use Rattle.std.proofs.Common.{◌≡◌, ◌<◌, ◌≤◌, ap, sym, ◌∙◌, get_or, length, arith}
use Rattle.std.proofs.lemmas.Bool.{le-ltb, lt-ltb}
use Rattle.std.proofs.lemmas.List.{at_drop_all}
use Rattle.std.proofs.Math.Nat.{lt_of_not-le}
use Rattle.gp_constraint.specs.Points.{points_of}
use Rattle.gp_patterns.proofs.Sizes.{length_points, past_limit, size_all}
use Rattle.gp_patterns.proofs.encoding.is_large.Goals as goal

pub returns-in-None : goal.returns-in-None
returns-in-None c =
    let items = c.segments-segment-items.result.now in
    let i = c.loop-segment.segment-index in
    let below : c.loop-segment.room < c.len.result = lt_of_not-le c.in-None.ensures in
    let own : c.len.result ≡ length (get_or items i c.segment-item.result) = c.len.ensures ∙ ap length c.segment-item.is in
    let past : 2048 < size_all items = past_limit items i 2048 c.loop-segment.room c.segment-item.result c.loop-segment-test.true (omega (arith, below, own)) c.loop-segment.invariant in
    let same : size_all items ≡ size_all c.args.window.now.segments = ap size_all c.segments-segment-items.ensures.value in
    let count = length_points 1 0 c.args.window.now.segments in
    sym (lt-ltb 2048 (length (points_of c.args.window.now)) (omega (arith, past, same, count)))

pub returns : goal.returns
returns c =
    let items = c.segments-segment-items.result.now in
    let none = at_drop_all size_all items c.loop-segment.segment-index c.loop-segment-test.false in
    let same : size_all items ≡ size_all c.args.window.now.segments = ap size_all c.segments-segment-items.ensures.value in
    let count = length_points 1 0 c.args.window.now.segments in
    let left = c.loop-segment.invariant in
    sym (le-ltb 2048 (length (points_of c.args.window.now)) (omega (arith, none, same, count, left)))
