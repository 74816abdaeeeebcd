-- The lines so far, and then those of what is left, are all.
use Rattle.std.proofs.Common.{◌≡◌, ◌==◌, ◌++◌, length}
use Rattle.std.specs.List.{slice_split}
use Rattle.gp_beside.proofs.sources.lines_in.Given as goal

abbrev pub invariant-loop-line : goal.invariant-loop-line
invariant-loop-line l = l.lines ++ slice_split (λ b. b == 10) l.rest ≡ slice_split (λ b. b == 10) l.bytes

abbrev pub decreases-loop-line : goal.decreases-loop-line
decreases-loop-line l = length l.rest
