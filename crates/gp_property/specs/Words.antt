-- The words that spell a property: the one spelling that a printer writes.
use Rattle.std.specs.Prelude.{ℕ, List, [], ◌∷◌, ◌++◌, Option, Some, None, codes, decimal, map}
use Rattle.std.specs.Fmt.{signed_decimal}
use Rattle.gp_property.specs.declared.property.Atom.{Atom}
use Rattle.gp_property.specs.declared.property.EventDef.{EventDef}
use Rattle.gp_property.specs.declared.property.PatternStep.{PatternStep}
use Rattle.gp_property.specs.declared.property.Shape.{Shape}
use Rattle.gp_property.specs.declared.property.Shape.TheVariants.{Read, Write, Acquire, Release, Start, Join, Op, Begin, End}
use Rattle.gp_property.specs.declared.property.Term.{Term}
use Rattle.gp_property.specs.declared.property.Term.TheVariants as term
use Rattle.gp_property.specs.declared.property.ThreadTerm.{ThreadTerm}
use Rattle.gp_property.specs.declared.property.ThreadTerm.TheVariants as thread
use Rattle.gp_property.specs.declared.property.ValueTerm.{ValueTerm}
use Rattle.gp_property.specs.declared.property.ValueTerm.TheVariants as value
use Rattle.gp_property.specs.PropertyForm.{PropertyForm}

-- a name, a parameter after `$`, or `*`
abbrev pub term_word : Term → List ℕ
term_word (term.Is name) = name
term_word (term.Param name) = 36 ∷ name
term_word term.Any = codes "*"

-- a value or `*`
abbrev pub value_word : ValueTerm → List ℕ
value_word (value.Is z) = signed_decimal z
value_word value.Any = codes "*"

-- the number of a thread or `*`
abbrev pub thread_word : ThreadTerm → List ℕ
thread_word (thread.Is n) = decimal n
thread_word thread.Any = codes "*"

-- the keyword of a shape and what it takes
abbrev pub shape_words : Shape → List (List ℕ)
shape_words (Read name value) = codes "read" ∷ term_word name ∷ value_word value ∷ []
shape_words (Write name value) = codes "write" ∷ term_word name ∷ value_word value ∷ []
shape_words (Acquire name) = codes "acquire" ∷ term_word name ∷ []
shape_words (Release name) = codes "release" ∷ term_word name ∷ []
shape_words (Start thread) = codes "start" ∷ thread_word thread ∷ []
shape_words (Join thread) = codes "join" ∷ thread_word thread ∷ []
shape_words (Op name objects) = codes "op" ∷ name ∷ map term_word objects
shape_words (Begin name) = codes "begin" ∷ term_word name ∷ []
shape_words (End name) = codes "end" ∷ term_word name ∷ []

-- the line of an event
abbrev pub event_words : EventDef → List (List ℕ)
event_words event = codes "event" ∷ event.name ∷ shape_words event.shape

-- a mark of this kind and number, where there is a number
abbrev pub mark_word : ℕ → Option ℕ → List ℕ
mark_word mark None = []
mark_word mark (Some n) = mark ∷ decimal n

-- `event@threadvar`, and `<N` where the atom opens a region, `>N` where it closes one
abbrev pub atom_word : Atom → List ℕ
atom_word atom = atom.event ++ (64 ∷ (atom.thread_var ++ (mark_word 60 atom.opens ++ mark_word 62 atom.closes)))

-- the further atoms of a group, each after a `||`
abbrev pub grouped_words : List Atom → List (List ℕ)
grouped_words [] = []
grouped_words (atom ∷ atoms) = codes "||" ∷ atom_word atom ∷ grouped_words atoms

-- the atoms of a step
abbrev pub atoms_words : List Atom → List (List ℕ)
atoms_words [] = []
atoms_words (atom ∷ atoms) = atom_word atom ∷ grouped_words atoms

-- the words of the steps, one after another
abbrev pub steps_words : List PatternStep → List (List ℕ)
steps_words [] = []
steps_words (step ∷ steps) = atoms_words step.atoms ++ steps_words steps

-- the line of a pattern
abbrev pub pattern_words : List PatternStep → List (List ℕ)
pattern_words pattern = codes "pattern" ∷ steps_words pattern

-- the lines of a property: its name, its events, and its pattern
abbrev pub property_lines : PropertyForm → List (List (List ℕ))
property_lines property =
    (codes "property" ∷ property.name ∷ []) ∷ (map event_words property.events ++ pattern_words property.pattern ∷ [])
