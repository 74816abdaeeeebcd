-- The walk over the lines that are left, from here, is the walk over all.
use Rattle.std.proofs.Common.{◌≡◌, ◌+◌, ◌≤◌, length}
use Rattle.gp_trace.specs.Walk.{after_lines}
use Rattle.gp_trace.proofs.walk.walk_lines.Given as goal

abbrev pub invariant-loop-line : goal.invariant-loop-line
invariant-loop-line l =
    (after_lines l.format l.thread l.marks l.walk l.lines ≡ after_lines l.format l.thread l.marks l.initial.walk l.initial.lines)
    × (length l.walk.ended + length l.lines ≤ length l.initial.lines)

abbrev pub decreases-loop-line : goal.decreases-loop-line
decreases-loop-line l = length l.lines
