use Rattle.std.proofs.Common.{◌≡◌, map, take}
use Rattle.gp_derivation.specs.Numbering.{renumbered, number_beside}
use Rattle.gp_derivation.proofs.numbering.renumber.Given as goal

abbrev pub invariant-loop-hint : goal.invariant-loop-hint
invariant-loop-hint l = l.hints.items ≡ map (renumbered l.base_clauses (number_beside l.places l.numbers)) (take l.hint-index l.hint-items)
