-- What is known of each property of the language, for those who go through its atoms.
use Rattle.std.specs.Prelude.{◌≡◌, ◌≤◌, length}
use Rattle.std.specs.List.{AllByRecursion}
use Rattle.gp_property.specs.declared.property.PatternStep.{PatternStep}
use Rattle.gp_property.specs.Atoms.{atom_count, atoms_of}
use Rattle.gp_property.specs.Property.{IsProperty}
use Rattle.gp_property.specs.PropertyForm.{PropertyForm}

-- a step of one to four atoms
abbrev pub IsStep : PatternStep → Type 0
IsStep step = (1 ≤ length step.atoms) × (length step.atoms ≤ 4)

-- the atoms of a property: each atom of its pattern is one of them, and there are one to six, one to four in a step
pub record HasAtoms (property : PropertyForm) : Type 0 where
  pub each : length (atoms_of property) ≡ atom_count property.pattern
  pub some : 1 ≤ length (atoms_of property)
  pub most : length (atoms_of property) ≤ 6
  pub steps : AllByRecursion IsStep property.pattern

-- a property of the language has such atoms
abbrev pub AtomsKept : Type 0
AtomsKept = (property : PropertyForm) → IsProperty property → HasAtoms property
