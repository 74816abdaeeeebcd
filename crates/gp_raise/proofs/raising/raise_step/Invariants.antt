use Rattle.std.proofs.Common.{◌≡◌, map, take}
use Rattle.gp_derivation.specs.Numbering.{moved}
use Rattle.gp_raise.proofs.raising.raise_step.Given as goal

abbrev pub invariant-loop-hint : goal.invariant-loop-hint
invariant-loop-hint l = l.made.items ≡ map (moved l.clauses l.gained) (take l.hint-index l.hint-items)
