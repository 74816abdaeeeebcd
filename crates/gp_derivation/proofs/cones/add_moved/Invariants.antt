use Rattle.std.proofs.Common.{◌≡◌, ◌++◌, map, take}
use Rattle.gp_derivation.specs.Numbering.{moved, with_hints}
use Rattle.gp_derivation.proofs.cones.add_moved.Given as goal

abbrev pub invariant-loop-step : goal.invariant-loop-step
invariant-loop-step l = l.steps ≡ l.fn.steps ++ map (with_hints (moved l.base_clauses l.by)) (take l.step-index l.added)
