-- What is left is trimmed as the whole is.
use Rattle.std.proofs.Common.{◌≡◌, length}
use Rattle.gp_beside.specs.Sources.{trimmed}
use Rattle.gp_beside.proofs.sources.trimmed.Given as goal

abbrev pub invariant-loop-first : goal.invariant-loop-first
invariant-loop-first l = trimmed l.rest ≡ trimmed l.line

abbrev pub decreases-loop-first : goal.decreases-loop-first
decreases-loop-first l = length l.rest
