use Rattle.std.proofs.Common.{◌≡◌, ◌++◌, drop}
use Rattle.gp_story.specs.declared.story.Part.TheVariants.{Run}
use Rattle.gp_drawing.specs.Bars.{placed_in}
use Rattle.gp_drawing.proofs.bars.place_lines.Given as goal

abbrev pub invariant-loop-line : goal.invariant-loop-line
invariant-loop-line l = l.placed ++ placed_in l.row (Run (drop l.line-index l.lines)) ≡ l.initial.placed ++ placed_in l.row (Run l.lines)
