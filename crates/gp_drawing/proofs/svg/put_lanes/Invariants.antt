use Rattle.std.proofs.Common.{◌≡◌, ◌+◌, ◌-◌, ◌++◌}
use Rattle.std.specs.List.{flat_map}
use Rattle.gp_window.specs.WindowForm.{numbers_from}
use Rattle.gp_drawing.specs.Svg.{lane_svg}
use Rattle.gp_drawing.proofs.svg.put_lanes.Given as goal

abbrev pub invariant-loop-lane : goal.invariant-loop-lane
invariant-loop-lane l = l.text.items ++ flat_map (lane_svg l.rows) (numbers_from (l.lane + 1) (l.lanes - l.lane)) ≡ l.initial.text.items ++ flat_map (lane_svg l.rows) (numbers_from 1 l.lanes)
