use Rattle.std.proofs.Common.{◌≡◌, ◌++◌, drop}
use Rattle.std.specs.List.{flat_map}
use Rattle.gp_drawing.specs.Svg.{arrow_svg}
use Rattle.gp_drawing.proofs.svg.put_arrows.Given as goal

abbrev pub invariant-loop-arrow : goal.invariant-loop-arrow
invariant-loop-arrow l = l.text.items ++ flat_map (arrow_svg l.rows) (drop l.arrow-index l.arrows) ≡ l.initial.text.items ++ flat_map (arrow_svg l.rows) l.arrows
