use Rattle.std.proofs.Common.{◌≡◌, ◌++◌, drop}
use Rattle.gp_drawing.specs.Svg.{rows_svg}
use Rattle.gp_drawing.proofs.svg.put_rows.Given as goal

abbrev pub invariant-loop-row : goal.invariant-loop-row
invariant-loop-row l = l.text.items ++ rows_svg l.places l.window l.lanes l.row (drop l.row l.rows) ≡ l.initial.text.items ++ rows_svg l.places l.window l.lanes 0 l.rows
