use Rattle.std.proofs.Common.{◌≡◌, map, take}
use Rattle.gp_sharing.specs.Moving.{raised}
use Rattle.gp_sharing.proofs.renumbering.raise_step.Given as goal

abbrev pub invariant-loop-hint : goal.invariant-loop-hint
invariant-loop-hint l = l.made.items ≡ map (raised l.sizes l.gained) (take l.hint-index l.hint-items)
