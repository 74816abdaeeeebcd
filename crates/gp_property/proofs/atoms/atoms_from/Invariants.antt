use Rattle.std.proofs.Common.{◌≡◌, ◌++◌, drop}
use Rattle.gp_property.specs.Atoms.{atoms_from}
use Rattle.gp_property.proofs.atoms.atoms_from.Given as goal

abbrev pub invariant-loop-number : goal.invariant-loop-number
invariant-loop-number l = l.atoms ++ atoms_from l.events l.number (drop l.number l.pattern) ≡ atoms_from l.events 0 l.pattern
