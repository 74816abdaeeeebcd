-- The lines that are left, from here, tell what all lines tell.
use Rattle.std.proofs.Common.{◌≡◌, drop}
use Rattle.gp_beside.specs.PlaceList.{with_lines}
use Rattle.gp_beside.proofs.place_list.with_lines.Given as goal

abbrev pub invariant-loop-line : goal.invariant-loop-line
invariant-loop-line l = with_lines l.told (drop l.line-index l.lines) ≡ with_lines l.fn.told l.lines
