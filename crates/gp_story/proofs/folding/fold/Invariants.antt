-- What is folded, with the lines that are left, is all.
use Rattle.std.proofs.Common.{◌≡◌, [], drop}
use Rattle.gp_story.specs.Folding.{after_lines}
use Rattle.gp_story.proofs.folding.fold.Given as goal

abbrev pub invariant-loop-line : goal.invariant-loop-line
invariant-loop-line l = after_lines l.folding (drop l.line-index l.lines) ≡ after_lines (record { parts = []; group = [] }) l.lines
