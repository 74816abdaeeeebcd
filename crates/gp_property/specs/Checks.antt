-- What a pattern has to keep beside its form: limits, known events, and regions that are well used.
use Rattle.std.specs.Prelude.{ℕ, ◌==◌, Bool, true, false, not, ◌&&◌, ◌||◌, nat_lt, List, [], ◌∷◌, length, count_by, Option, Some, None, Result, Ok, Err, if◌then◌else◌}
use Rattle.std.specs.List.{list_all, list_any}
use Rattle.std.specs.Str.{bytes_eq}
use Rattle.gp_property.specs.declared.atoms.PatternAtom.{PatternAtom}
use Rattle.gp_property.specs.declared.fault.PropertyFault.{PropertyFault}
use Rattle.gp_property.specs.declared.fault.PropertyFault.TheVariants.{TooManyAtoms, UnknownEvent, RegionUse}
use Rattle.gp_property.specs.declared.property.EventDef.{EventDef}
use Rattle.gp_property.specs.declared.property.PatternStep.{PatternStep}
use Rattle.gp_property.specs.declared.property.Shape.{Shape}
use Rattle.gp_property.specs.declared.property.Shape.TheVariants.{Begin, End}
use Rattle.gp_property.specs.Atoms.{atom_count, atoms_from}

-- over four atoms in one step
abbrev pub is_wide : PatternStep → Bool
is_wide step = nat_lt 4 (length step.atoms)

-- over six atoms in all, or over four in one step
abbrev pub has_too_many : List PatternStep → Bool
has_too_many pattern = nat_lt 6 (atom_count pattern) || list_any is_wide pattern

-- whether an event of this name is defined
abbrev pub is_defined : List EventDef → List ℕ → Bool
is_defined events name = list_any (λ event. bytes_eq event.name name) events

-- the event of each atom is defined
abbrev pub are_defined : List EventDef → List PatternStep → Bool
are_defined events pattern = list_all (λ step. list_all (λ atom. is_defined events atom.event) step.atoms) pattern

-- the beginning of a region
abbrev pub is_begin_shape : Shape → Bool
is_begin_shape (Begin name) = true
is_begin_shape _ = false

-- the end of a region
abbrev pub is_end_shape : Shape → Bool
is_end_shape (End name) = true
is_end_shape _ = false

-- whether this is the number that stands there
abbrev pub is_number : ℕ → Option ℕ → Bool
is_number n None = false
is_number n (Some m) = m == n

-- whether two atoms are the beginning of a region and its end: in one thread, and in an earlier and a later step
abbrev pub is_region : PatternAtom → PatternAtom → Bool
is_region opener closer =
    is_begin_shape opener.shape && is_end_shape closer.shape
    && bytes_eq opener.thread_var closer.thread_var && nat_lt opener.step closer.step

-- whether each atom that closes the region of this number ends the region of an opener
abbrev pub all_end : List PatternAtom → ℕ → PatternAtom → Bool
all_end atoms n opener = list_all (λ closer. not (is_number n closer.closes) || is_region opener closer) atoms

-- whether each atom that opens the region of this number makes a region with each one that closes it
abbrev pub are_regions : List PatternAtom → ℕ → Bool
are_regions atoms n = list_all (λ opener. not (is_number n opener.opens) || all_end atoms n opener) atoms

-- how many atoms open the region of this number
abbrev pub openers : List PatternAtom → ℕ → ℕ
openers atoms n = count_by (λ atom. is_number n atom.opens) atoms

-- how many atoms close the region of this number
abbrev pub closers : List PatternAtom → ℕ → ℕ
closers atoms n = count_by (λ atom. is_number n atom.closes) atoms

-- a number that is no region of the pattern, or that is opened once and closed once, by a region
abbrev pub is_well_used : List PatternAtom → ℕ → Bool
is_well_used atoms n =
    (openers atoms n == 0 && closers atoms n == 0)
    || (openers atoms n == 1 && closers atoms n == 1 && are_regions atoms n)

-- the numbers of regions
abbrev pub region_numbers : List ℕ
region_numbers = 1 ∷ 2 ∷ 3 ∷ 4 ∷ 5 ∷ 6 ∷ 7 ∷ 8 ∷ 9 ∷ []

-- each number of a region is well used
abbrev pub are_well_used : List PatternAtom → Bool
are_well_used atoms = list_all (is_well_used atoms) region_numbers

-- what the regions of a pattern on this line are told with
abbrev pub checked_regions : ℕ → List PatternAtom → Result (Unit {0}) PropertyFault
checked_regions number atoms = if are_well_used atoms then Ok tt else Err (RegionUse number)

-- the first rule that a pattern on this line breaks
unfoldable pub checked_pattern : ℕ → List EventDef → List PatternStep → Result (Unit {0}) PropertyFault
checked_pattern number events pattern =
    if has_too_many pattern then Err (TooManyAtoms number)
    else (if are_defined events pattern then checked_regions number (atoms_from events 0 pattern) else Err (UnknownEvent number))
