-- The atoms of a pattern in order, each with its step and with what its event has to be like.
use Rattle.std.specs.Prelude.{ℕ, ◌+◌, ◌++◌, List, [], ◌∷◌, length, flat_map, sum_by, Option, Some, None, if◌then◌else◌}
use Rattle.std.specs.Str.{bytes_eq}
use Rattle.gp_property.specs.declared.atoms.PatternAtom.{PatternAtom}
use Rattle.gp_property.specs.declared.property.Atom.{Atom}
use Rattle.gp_property.specs.declared.property.EventDef.{EventDef}
use Rattle.gp_property.specs.declared.property.PatternStep.{PatternStep}
use Rattle.gp_property.specs.declared.property.Shape.{Shape}
use Rattle.gp_property.specs.PropertyForm.{PropertyForm}

-- how many atoms the steps of a pattern have
abbrev pub atom_count : List PatternStep → ℕ
atom_count pattern = sum_by (λ step. length step.atoms) pattern

-- what the event of this name has to be like, where it is defined
abbrev pub shape_named : List EventDef → List ℕ → Option Shape
shape_named [] name = None
shape_named (event ∷ events) name = if bytes_eq event.name name then Some event.shape else shape_named events name

-- an atom in the step of this number, where its event is defined
abbrev pub placed_with : ℕ → Atom → Option Shape → List PatternAtom
placed_with step atom None = []
placed_with step atom (Some shape) =
    record { step = step; shape = shape; thread_var = atom.thread_var; opens = atom.opens; closes = atom.closes } ∷ []

-- an atom in the step of this number, by the events that are defined
abbrev pub placed : List EventDef → ℕ → Atom → List PatternAtom
placed events step atom = placed_with step atom (shape_named events atom.event)

-- the atoms of these steps in order, the first of which has this number
abbrev pub atoms_from : List EventDef → ℕ → List PatternStep → List PatternAtom
atoms_from events n [] = []
atoms_from events n (step ∷ steps) = flat_map (placed events n) step.atoms ++ atoms_from events (n + 1) steps

-- the atoms of a property in the order of its pattern
abbrev pub atoms_of : PropertyForm → List PatternAtom
atoms_of property = atoms_from property.events 0 property.pattern
