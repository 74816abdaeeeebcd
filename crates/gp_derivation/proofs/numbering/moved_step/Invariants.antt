use Rattle.std.proofs.Common.{◌≡◌, map, take}
use Rattle.gp_derivation.specs.Numbering.{moved}
use Rattle.gp_derivation.proofs.numbering.moved_step.Given as goal

abbrev pub invariant-loop-hint : goal.invariant-loop-hint
invariant-loop-hint l = l.hints.items ≡ map (moved l.base_clauses l.by) (take l.hint-index l.hint-items)
