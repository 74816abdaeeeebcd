use Rattle.std.proofs.Common.{◌≡◌, map}
use Rattle.gp_derivation.specs.Numbering.{with_hints}
use Rattle.gp_sharing.specs.Moving.{raised}
use Rattle.gp_sharing.proofs.renumbering.raise_steps.Given as goal

abbrev pub invariant-loop-step : goal.invariant-loop-step
invariant-loop-step l = l.made.items ≡ map (with_hints (raised l.sizes l.gained)) l.yielded
