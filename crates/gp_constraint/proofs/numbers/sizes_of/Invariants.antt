use Rattle.std.proofs.Common.{◌≡◌, ◌++◌, drop, length}
use Rattle.std.specs.Prelude.{map}
use Rattle.gp_constraint.proofs.numbers.sizes_of.Given as goal

abbrev pub invariant-loop-segment : goal.invariant-loop-segment
invariant-loop-segment l = l.sizes ++ map (λ segment. length segment) (drop l.segment-index l.segments) ≡ map (λ segment. length segment) l.segments
