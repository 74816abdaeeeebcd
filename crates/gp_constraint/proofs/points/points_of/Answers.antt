use Rattle.std.proofs.Common.{◌≡◌, ◌+◌, ◌++◌, ℕ, List, ap, ◌∙◌, arith, length, length-append, get_or, drop}
use Rattle.gp_trace.specs.declared.event.Event.{Event}
use Rattle.gp_constraint.specs.declared.point.Point.{Point}
use Rattle.gp_constraint.specs.Points.{points_from, points_in}
use Rattle.gp_constraint.proofs.Counted.{segment_fits, segment_more}
use Rattle.gp_constraint.proofs.points.points_of.Goals as goal

pub add_segment-requires : goal.add_segment-requires
add_segment-requires c =
    let items : List (List Event) = c.segments-segment-items.result.now in
    let i : ℕ = c.loop-segment.segment-index in
    let points : List Point = c.loop-segment.points in
    let left : List Point = points_from c.loop-segment.thread (length points) (drop i items) in
    let parts = length-append points left in
    let whole = ap length c.loop-segment.invariant.points in
    let fits = segment_fits items i c.segment-item.result c.loop-segment.thread (length points) c.loop-segment-test.true in
    let own = ap length c.segment-item.is in
    let slice = ap length c.as_slice.ensures in
    let few = c.requires in
    omega (arith, parts, whole, fits, own, slice, few)

pub loop-segment-preserved : goal.loop-segment-preserved
loop-segment-preserved c =
    let items : List (List Event) = c.segments-segment-items.result.now in
    let i : ℕ = c.loop-segment.segment-index in
    let points : List Point = c.loop-segment.points in
    let thread : ℕ = c.loop-segment.thread in
    let segment : c.as_slice.result.now ≡ get_or items i c.segment-item.result = c.as_slice.ensures ∙ c.segment-item.is in
    let added : c.add_segment.new.points ≡ points ++ points_in thread 0 (length points) (get_or items i c.segment-item.result) =
    c.in_ok-add_segment.ensures ∙ ap (λ events. points ++ points_in thread 0 (length points) events) segment in
    record {
      thread = let before = c.loop-segment.invariant.thread in omega (arith, before);
      points =
          segment_more points c.add_segment.new.points thread (thread + 1) items i (i + 1) c.segment-item.result c.loop-segment-test.true (omega arith) (omega arith) added
          ∙ c.loop-segment.invariant.points;
    }
