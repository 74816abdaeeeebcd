use Rattle.std.proofs.Common.{◌≡◌, ◌++◌, drop}
use Rattle.std.specs.List.{flat_map}
use Rattle.gp_drawing.specs.Svg.{bar_svg}
use Rattle.gp_drawing.proofs.svg.put_bars.Given as goal

abbrev pub invariant-loop-bar : goal.invariant-loop-bar
invariant-loop-bar l = l.text.items ++ flat_map (bar_svg l.rows) (drop l.bar-index l.bars) ≡ l.initial.text.items ++ flat_map (bar_svg l.rows) l.bars
