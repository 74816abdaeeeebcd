use Rattle.std.proofs.Common.{◌≡◌, ◌+◌, drop}
use Rattle.gp_sharing.specs.Moving.{are_movable}
use Rattle.gp_sharing.proofs.moving.are_movable.Given as goal

abbrev pub invariant-loop-own : goal.invariant-loop-own
invariant-loop-own l = are_movable (l.first + l.own) (drop l.own l.steps) ≡ are_movable l.first l.steps
