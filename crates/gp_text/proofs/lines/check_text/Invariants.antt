-- What is left has the fault of the whole, and its lines can be counted.
use Rattle.std.proofs.Common.{◌≡◌, ◌+◌, ◌≤◌, length}
use Rattle.gp_text.specs.Lines.{check_from, check_of_text, parts_of}
use Rattle.gp_text.proofs.lines.check_text.Given as goal

abbrev pub invariant-loop-line : goal.invariant-loop-line
invariant-loop-line l =
    (check_from l.number (parts_of l.rest) ≡ check_of_text l.bytes)
    × (l.number + length l.rest ≤ 1 + length l.bytes)

abbrev pub decreases-loop-line : goal.decreases-loop-line
decreases-loop-line l = length l.rest
