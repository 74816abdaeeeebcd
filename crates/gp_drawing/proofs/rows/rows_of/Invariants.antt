use Rattle.std.proofs.Common.{◌≡◌, ◌++◌, drop}
use Rattle.gp_drawing.specs.Rows.{rows_of}
use Rattle.gp_drawing.proofs.rows.rows_of.Given as goal

abbrev pub invariant-loop-part : goal.invariant-loop-part
invariant-loop-part l = l.rows ++ rows_of (drop l.part-index l.parts) ≡ rows_of l.parts
