use Rattle.std.proofs.Common.{◌≡◌, ◌++◌, drop, take}
use Rattle.gp_drawing.specs.Arrows.{arrows_from, arrows_of}
use Rattle.gp_drawing.specs.Singles.{TellsSingles}
use Rattle.gp_drawing.proofs.arrows.arrows_of.Given as goal

abbrev pub invariant-loop-row : goal.invariant-loop-row
invariant-loop-row l = record {
  told : l.arrows ++ arrows_from l.window (take l.row l.parts) (drop l.row l.parts) ≡ arrows_of l.window l.parts;
  singles : TellsSingles (take l.row l.parts) l.singles;
}
