use Rattle.std.proofs.Common.{◌≡◌, ◌+◌, drop}
use Rattle.gp_property.specs.Atoms.{atom_count}
use Rattle.gp_property.proofs.checks.has_more_atoms.Given as goal

abbrev pub invariant-loop-step : goal.invariant-loop-step
invariant-loop-step l = l.left + atom_count l.pattern ≡ 6 + atom_count (drop l.step-index l.pattern)
