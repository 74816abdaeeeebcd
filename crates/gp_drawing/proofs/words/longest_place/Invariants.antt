use Rattle.std.proofs.Common.{◌≡◌, drop, max}
use Rattle.gp_drawing.specs.Words.{longest_place}
use Rattle.gp_drawing.proofs.words.longest_place.Given as goal

abbrev pub invariant-loop-row : goal.invariant-loop-row
invariant-loop-row l = max l.longest (longest_place l.places l.window (drop l.row-index l.rows)) ≡ longest_place l.places l.window l.rows
