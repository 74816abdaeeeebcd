-- The text of one lane more.
use Rattle.std.proofs.Common.{◌++◌}
use Rattle.std.specs.List.{flat_map}
use Rattle.gp_window.specs.WindowForm.{numbers_from}
use Rattle.gp_drawing.specs.Svg.{lane_svg}
use Rattle.gp_drawing.proofs.Steps.{lane_put}
use Rattle.gp_drawing.proofs.svg.put_lanes.Goals as goal

pub loop-lane-preserved : goal.loop-lane-preserved
loop-lane-preserved c =
    lane_put (lane_svg c.args.rows) c.loop-lane.text.items c.put_lane.new.text.items (c.args.text.now.items ++ flat_map (lane_svg c.args.rows) (numbers_from 1 c.args.lanes))
    c.loop-lane.lane c.args.lanes c.loop-lane-test.true c.in_ok-put_lane.ensures c.loop-lane.invariant
