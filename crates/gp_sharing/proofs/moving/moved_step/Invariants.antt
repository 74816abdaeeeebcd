use Rattle.std.proofs.Common.{◌≡◌, map, take}
use Rattle.gp_sharing.specs.Moving.{shared_number}
use Rattle.gp_sharing.proofs.moving.moved_step.Given as goal

abbrev pub invariant-loop-hint : goal.invariant-loop-hint
invariant-loop-hint l = l.hints.items ≡ map (shared_number l.sizes l.places) (take l.hint-index l.hint-items)
