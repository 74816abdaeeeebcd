use Rattle.std.proofs.Common.{◌≡◌, ◌++◌, drop}
use Rattle.std.specs.Prelude.{flat_map}
use Rattle.gp_property.specs.Atoms.{placed}
use Rattle.gp_property.proofs.atoms.add_step.Given as goal

abbrev pub invariant-loop-atom : goal.invariant-loop-atom
invariant-loop-atom l = l.row ++ flat_map (placed l.events l.step) (drop l.atom-index l.atoms) ≡ l.initial.row ++ flat_map (placed l.events l.step) l.atoms
