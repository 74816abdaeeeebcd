use Rattle.std.proofs.Common.{◌≡◌, ◌+◌, drop}
use Rattle.gp_property.specs.Atoms.{atom_count}
use Rattle.gp_instance.proofs.matching.left_after.Given as goal

abbrev pub invariant-loop-step : goal.invariant-loop-step
invariant-loop-step l = l.left + atom_count l.pattern ≡ l.events + atom_count (drop l.step-index l.pattern)
