-- What is left to check of a pattern with few atoms and known events.
use Rattle.std.proofs.Common.{◌≡◌, refl, ℕ, true, false, List}
use Rattle.gp_property.specs.declared.property.EventDef.{EventDef}
use Rattle.gp_property.specs.declared.property.PatternStep.{PatternStep}
use Rattle.gp_property.specs.Atoms.{atoms_from}
use Rattle.gp_property.specs.Checks.{are_defined, checked_pattern, checked_regions, has_too_many}

pub regions_left : (number : ℕ) (events : List EventDef) (pattern : List PatternStep) → has_too_many pattern ≡ false → are_defined events pattern ≡ true
    → checked_regions number (atoms_from events 0 pattern) ≡ checked_pattern number events pattern
unfolding checked_pattern
regions_left number events pattern few known = rw (few, known) refl
