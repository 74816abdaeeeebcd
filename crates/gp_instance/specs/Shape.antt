-- Which events an atom may stand for by themselves, and what its parameters stand for there.
use Rattle.std.specs.Prelude.{ℕ, ℤ, Bool, true, false, ◌==◌, ◌&&◌, List, [], ◌∷◌, zip, length}
use Rattle.std.specs.List.{list_all, flat_map}
use Rattle.std.specs.Ordering.{int_eq}
use Rattle.std.specs.Str.{bytes_eq}
use Rattle.gp_trace.specs.declared.event.Event.{Event}
use Rattle.gp_trace.specs.declared.event.Event.TheVariants as event
use Rattle.gp_property.specs.declared.property.Shape.{Shape}
use Rattle.gp_property.specs.declared.property.Shape.TheVariants.{Read, Write, Acquire, Release, Start, Join, Op, Begin, End}
use Rattle.gp_property.specs.declared.property.Term.{Term}
use Rattle.gp_property.specs.declared.property.Term.TheVariants as term
use Rattle.gp_property.specs.declared.property.ThreadTerm.{ThreadTerm}
use Rattle.gp_property.specs.declared.property.ThreadTerm.TheVariants as thread
use Rattle.gp_property.specs.declared.property.ValueTerm.{ValueTerm}
use Rattle.gp_property.specs.declared.property.ValueTerm.TheVariants as value

-- the term allows the name: a constant allows itself, a parameter and `*` allow any name
abbrev pub allows : Term → List ℕ → Bool
allows (term.Is name) found = bytes_eq name found
allows (term.Param name) found = true
allows term.Any found = true

-- the term allows the value
abbrev pub allows_value : ValueTerm → ℤ → Bool
allows_value (value.Is number) found = int_eq number found
allows_value value.Any found = true

-- the term allows the thread
abbrev pub allows_thread : ThreadTerm → ℕ → Bool
allows_thread (thread.Is number) found = number == found
allows_thread thread.Any found = true

-- the terms of a shape
abbrev pub terms_of : Shape → List Term
terms_of (Read name value) = name ∷ []
terms_of (Write name value) = name ∷ []
terms_of (Acquire name) = name ∷ []
terms_of (Release name) = name ∷ []
terms_of (Start thread) = []
terms_of (Join thread) = []
terms_of (Op name objects) = objects
terms_of (Begin name) = name ∷ []
terms_of (End name) = name ∷ []

-- the variable, lock, region or objects of an event
abbrev pub names_of : Event → List (List ℕ)
names_of (event.Read name value) = name ∷ []
names_of (event.Write name value) = name ∷ []
names_of (event.Acquire name) = name ∷ []
names_of (event.Release name) = name ∷ []
names_of (event.Op (name, objects)) = objects
names_of (event.Begin name) = name ∷ []
names_of (event.End name) = name ∷ []
names_of other = []

-- the event is of the shape's kind, with its value, thread or operation
abbrev pub is_kind : Shape → Event → Bool
is_kind (Read name value) (event.Read variable found) = allows_value value found
is_kind (Read name value) other = false
is_kind (Write name value) (event.Write variable found) = allows_value value found
is_kind (Write name value) other = false
is_kind (Acquire name) (event.Acquire lock) = true
is_kind (Acquire name) other = false
is_kind (Release name) (event.Release lock) = true
is_kind (Release name) other = false
is_kind (Start thread) (event.Start found) = allows_thread thread found
is_kind (Start thread) other = false
is_kind (Join thread) (event.Join found) = allows_thread thread found
is_kind (Join thread) other = false
is_kind (Op name objects) (event.Op (found, names)) = bytes_eq name found
is_kind (Op name objects) other = false
is_kind (Begin name) (event.Begin region) = true
is_kind (Begin name) other = false
is_kind (End name) (event.End region) = true
is_kind (End name) other = false

-- there are as many names as terms, and each term allows its name
abbrev pub allow_all : List Term → List (List ℕ) → Bool
allow_all terms names = length terms == length names && list_all (λ pair. allows pair.0 pair.1) (zip terms names)

-- the event has the kind, the names and the constants of the shape
abbrev pub has_shape : Shape → Event → Bool
has_shape shape found = is_kind shape found && allow_all (terms_of shape) (names_of found)

-- a parameter with the name that it stands for
abbrev pub binding_of : Term × List ℕ → List (List ℕ × List ℕ)
binding_of (term.Is name, found) = []
binding_of (term.Param name, found) = (name, found) ∷ []
binding_of (term.Any, found) = []

-- the parameters of terms with the names that they stand for
abbrev pub bindings_in : List Term → List (List ℕ) → List (List ℕ × List ℕ)
bindings_in terms names = flat_map binding_of (zip terms names)

-- the parameters of a shape with the names that they stand for in an event
abbrev pub bindings_of : Shape → Event → List (List ℕ × List ℕ)
bindings_of shape found = bindings_in (terms_of shape) (names_of found)
