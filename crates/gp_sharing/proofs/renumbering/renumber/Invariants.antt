use Rattle.std.proofs.Common.{◌≡◌, map, take}
use Rattle.gp_sharing.specs.Moving.{by_numbers}
use Rattle.gp_sharing.proofs.renumbering.renumber.Given as goal

abbrev pub invariant-loop-hint : goal.invariant-loop-hint
invariant-loop-hint l = l.made.items ≡ map (by_numbers l.sizes l.numbers) (take l.hint-index l.hint-items)
