-- Which properties are of the language: their parts, their limits, known events, and regions that are well used.
use Rattle.std.specs.Prelude.{◌≡◌, ◌<◌, ◌≤◌, ◌^◌, ℕ, true, false, List, [], ◌∷◌, ◌++◌, length, Option, Some, None, FitsSigned}
use Rattle.std.specs.Int.{w64}
use Rattle.std.specs.List.{AllByRecursion}
use Rattle.gp_text.specs.Name.{is_name}
use Rattle.gp_property.specs.declared.property.Atom.{Atom}
use Rattle.gp_property.specs.declared.property.EventDef.{EventDef}
use Rattle.gp_property.specs.declared.property.PatternStep.{PatternStep}
use Rattle.gp_property.specs.declared.property.Shape.{Shape}
use Rattle.gp_property.specs.declared.property.Shape.TheVariants.{Read, Write, Acquire, Release, Start, Join, Op, Begin, End}
use Rattle.gp_property.specs.declared.property.Term.{Term}
use Rattle.gp_property.specs.declared.property.Term.TheVariants as term
use Rattle.gp_property.specs.declared.property.ThreadTerm.{ThreadTerm}
use Rattle.gp_property.specs.declared.property.ThreadTerm.TheVariants as thread
use Rattle.gp_property.specs.declared.property.ValueTerm.{ValueTerm}
use Rattle.gp_property.specs.declared.property.ValueTerm.TheVariants as value
use Rattle.gp_property.specs.Atoms.{atoms_of}
use Rattle.gp_property.specs.Checks.{are_defined, are_well_used, has_too_many, is_defined}
use Rattle.gp_property.specs.PropertyForm.{PropertyForm}

-- a term whose name, where it has one, is a name
abbrev pub IsTerm : Term → Type 0
IsTerm (term.Is name) = is_name name ≡ true
IsTerm (term.Param name) = is_name name ≡ true
IsTerm term.Any = Unit {0}

-- a value from -2^63 to 2^63 - 1, or any
abbrev pub IsValue : ValueTerm → Type 0
IsValue (value.Is z) = FitsSigned w64 z
IsValue value.Any = Unit {0}

-- a number below 2^32, or any
abbrev pub IsThread : ThreadTerm → Type 0
IsThread (thread.Is n) = n < 2 ^ 32
IsThread thread.Any = Unit {0}

-- a shape of such parts, with four objects at the most
abbrev pub IsShape : Shape → Type 0
IsShape (Read name value) = IsTerm name × IsValue value
IsShape (Write name value) = IsTerm name × IsValue value
IsShape (Acquire name) = IsTerm name
IsShape (Release name) = IsTerm name
IsShape (Start thread) = IsThread thread
IsShape (Join thread) = IsThread thread
IsShape (Op name objects) = (is_name name ≡ true) × (length objects ≤ 4) × AllByRecursion IsTerm objects
IsShape (Begin name) = IsTerm name
IsShape (End name) = IsTerm name

-- an event that a line can define
pub record IsEvent (event : EventDef) : Type 0 where
  pub named : is_name event.name ≡ true
  pub shaped : IsShape event.shape

-- at most one mark, with a number from 1 to 9
abbrev pub IsMarked : Option ℕ → Option ℕ → Type 0
IsMarked None None = Unit {0}
IsMarked (Some n) None = (1 ≤ n) × (n ≤ 9)
IsMarked None (Some n) = (1 ≤ n) × (n ≤ 9)
IsMarked (Some n) (Some m) = ⊥

-- an atom that a word can spell
pub record IsAtom (atom : Atom) : Type 0 where
  pub event : is_name atom.event ≡ true
  pub thread : is_name atom.thread_var ≡ true
  pub marked : IsMarked atom.opens atom.closes

-- at least one atom
abbrev pub AreAtoms : List Atom → Type 0
AreAtoms [] = ⊥
AreAtoms (atom ∷ atoms) = IsAtom atom × AllByRecursion IsAtom atoms

-- at least one step
abbrev pub AreSteps : List PatternStep → Type 0
AreSteps [] = ⊥
AreSteps (step ∷ steps) = AreAtoms step.atoms × AllByRecursion (λ other. AreAtoms other.atoms) steps

-- no event has the name of one before it
abbrev pub AreNewEvents : List EventDef → List EventDef → Type 0
AreNewEvents before [] = Unit {0}
AreNewEvents before (event ∷ events) = (is_defined before event.name ≡ false) × AreNewEvents (before ++ event ∷ []) events

-- a property of the language: its parts, its limits, known events, and regions that are well used
pub record IsProperty (property : PropertyForm) : Type 0 where
  pub named : is_name property.name ≡ true
  pub events : AllByRecursion IsEvent property.events
  pub some_events : length property.events ≤ 16
  pub new_events : AreNewEvents [] property.events
  pub steps : AreSteps property.pattern
  pub few_atoms : has_too_many property.pattern ≡ false
  pub known : are_defined property.events property.pattern ≡ true
  pub regions : are_well_used (atoms_of property) ≡ true
