use Rattle.std.proofs.Common.{◌≡◌, map}
use Rattle.gp_derivation.specs.Numbering.{moved, with_hints}
use Rattle.gp_raise.proofs.raising.raise_steps.Given as goal

abbrev pub invariant-loop-step : goal.invariant-loop-step
invariant-loop-step l = l.made.items ≡ map (with_hints (moved l.clauses l.gained)) l.yielded
