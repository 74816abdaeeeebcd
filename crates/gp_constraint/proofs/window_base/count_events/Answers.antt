use Rattle.std.proofs.Common.{◌≡◌, List, ap, arith, length}
use Rattle.std.proofs.lemmas.List.{at_drop_all}
use Rattle.gp_trace.specs.declared.event.Event.{Event}
use Rattle.gp_window.specs.WindowForm.{WindowForm}
use Rattle.gp_constraint.specs.Points.{points_of}
use Rattle.gp_constraint.proofs.Counted.{length_points, size_all}
use Rattle.gp_constraint.proofs.window_base.count_events.Goals as goal

pub returns : goal.returns
returns c =
    let window : WindowForm = c.args.window.now in
    let items : List (List Event) = c.segments-segment-items.result.now in
    let none = at_drop_all size_all items c.loop-segment.segment-index c.loop-segment-test.false in
    let count : length (points_of window) ≡ size_all window.segments = length_points 1 0 window.segments in
    let same : size_all items ≡ size_all window.segments = ap size_all c.segments-segment-items.ensures.value in
    let counted = c.loop-segment.invariant in
    omega (arith, none, count, same, counted)
