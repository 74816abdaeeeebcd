-- What is left has the kept lines of the whole, and its lines can be counted.
use Rattle.std.proofs.Common.{◌≡◌, ◌+◌, ◌≤◌, length}
use Rattle.gp_text.specs.Lines.{kept_from, parts_of}
use Rattle.gp_text.proofs.cursor.cut_line.Given as goal

abbrev pub invariant-loop-line : goal.invariant-loop-line
invariant-loop-line l =
    (kept_from l.number (parts_of l.rest) ≡ kept_from l.fn.number (parts_of l.text))
    × (l.number + length l.rest ≤ l.fn.number + length l.text)

abbrev pub decreases-loop-line : goal.decreases-loop-line
decreases-loop-line l = length l.rest
