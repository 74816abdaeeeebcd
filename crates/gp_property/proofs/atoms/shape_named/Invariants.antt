use Rattle.std.proofs.Common.{◌≡◌, drop}
use Rattle.gp_property.specs.Atoms.{shape_named}
use Rattle.gp_property.proofs.atoms.shape_named.Given as goal

abbrev pub invariant-loop-event : goal.invariant-loop-event
invariant-loop-event l = shape_named (drop l.event-index l.events) l.name ≡ shape_named l.events l.name
