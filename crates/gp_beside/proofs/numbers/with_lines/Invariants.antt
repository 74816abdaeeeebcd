-- The lines that are left, from here, tell what all lines tell.
use Rattle.std.proofs.Common.{◌≡◌, drop}
use Rattle.gp_beside.specs.Numbers.{with_lines}
use Rattle.gp_beside.proofs.numbers.with_lines.Given as goal

abbrev pub invariant-loop-line : goal.invariant-loop-line
invariant-loop-line l = with_lines l.places l.segments l.told (drop l.line-index l.lines) ≡ with_lines l.places l.segments l.fn.told l.lines
