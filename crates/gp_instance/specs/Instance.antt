-- What an instance of a property in a window is: one event for each atom of the pattern, under six conditions.
use Rattle.std.specs.Prelude.{ℕ, Bool, false, not, ◌==◌, ◌&&◌, ◌||◌, nat_lt, List, [], ◌∷◌, length, Option, Some, None, if◌then◌else◌}
use Rattle.std.specs.List.{list_all, flat_map}
use Rattle.std.specs.Str.{bytes_eq}
use Rattle.gp_trace.specs.declared.event.Event.{Event}
use Rattle.gp_window.specs.declared.schedule.EventId.{EventId}
use Rattle.gp_window.specs.Events.{event_in, segment_in}
use Rattle.gp_window.specs.WindowForm.{WindowForm}
use Rattle.gp_window.specs.Ids.{is_same}
use Rattle.gp_property.specs.PropertyForm.{PropertyForm}
use Rattle.gp_property.specs.declared.property.Shape.{Shape}
use Rattle.gp_property.specs.declared.atoms.PatternAtom.{PatternAtom}
use Rattle.gp_property.specs.Atoms.{atoms_of}
use Rattle.gp_instance.specs.Pairs.{all_pairs}
use Rattle.gp_instance.specs.Region.{end_of}
use Rattle.gp_instance.specs.Shape.{bindings_of, has_shape}

-- an atom and the event that was chosen for it
pub record Choice : Type 0 where
  pub atom : PatternAtom
  pub id : EventId
  pub event : Option Event

-- the atom with this event of a window
abbrev pub choice_of : List (List Event) → PatternAtom → EventId → Choice
choice_of segments atom id = record { atom = atom; id = id; event = event_in segments id }

-- each atom with its event, in order
abbrev pub choices_of : List (List Event) → List PatternAtom → List EventId → List Choice
choices_of segments [] ids = []
choices_of segments (atom ∷ atoms) [] = []
choices_of segments (atom ∷ atoms) (id ∷ ids) = choice_of segments atom id ∷ choices_of segments atoms ids

-- whether an event is there and has the shape
abbrev pub fits_shape : Shape → Option Event → Bool
fits_shape shape None = false
fits_shape shape (Some event) = has_shape shape event

-- the event is one of the window, and has its atom's kind, names and constants
abbrev pub is_like_atom : Choice → Bool
is_like_atom choice = fits_shape choice.atom.shape choice.event

-- what the parameters of a shape stand for in an event, where it is there
abbrev pub bindings_with : Shape → Option Event → List (List ℕ × List ℕ)
bindings_with shape None = []
bindings_with shape (Some event) = bindings_of shape event

-- the parameters of an atom with the names that they stand for in its event
abbrev pub bindings : Choice → List (List ℕ × List ℕ)
bindings choice = bindings_with choice.atom.shape choice.event

-- two parameters, where they are equal, stand for equal names
abbrev pub agree : List ℕ × List ℕ → List ℕ × List ℕ → Bool
agree one other = not (bytes_eq one.0 other.0) || bytes_eq one.1 other.1

-- two atoms have events of one thread exactly where they have one thread variable
abbrev pub keep_threads : Choice → Choice → Bool
keep_threads one other =
    if bytes_eq one.atom.thread_var other.atom.thread_var
    then one.id.thread == other.id.thread
    else not (one.id.thread == other.id.thread)

-- whether two marks have the same number
abbrev pub is_same_mark : Option ℕ → Option ℕ → Bool
is_same_mark None other = false
is_same_mark (Some n) None = false
is_same_mark (Some n) (Some m) = n == m

-- whether this index is the one that was found
abbrev pub is_at : Option ℕ → ℕ → Bool
is_at None index = false
is_at (Some found) index = found == index

-- one event is the end that closes the very region that the other begins
abbrev pub closes : List (List Event) → EventId → EventId → Bool
closes segments begin end =
    begin.thread == end.thread && is_at (end_of (segment_in segments begin.thread) begin.index) end.index

-- where one atom opens a region and the other closes it, the event of the second closes that of the first
abbrev pub keep_region : List (List Event) → Choice → Choice → Bool
keep_region segments opener closer =
    not (is_same_mark opener.atom.opens closer.atom.closes) || closes segments opener.id closer.id

-- whichever of two atoms closes a region that the other opens, its event closes that of the other
abbrev pub keep_regions : List (List Event) → Choice → Choice → Bool
keep_regions segments one other = keep_region segments one other && keep_region segments other one

-- two atoms have different events
abbrev pub are_apart : Choice → Choice → Bool
are_apart one other = not (is_same one.id other.id)

-- events of one thread in different steps rise
abbrev pub rise : Choice → Choice → Bool
rise earlier later =
    not (earlier.id.thread == later.id.thread) || earlier.atom.step == later.atom.step || nat_lt earlier.id.index later.id.index

-- the six conditions, of the atoms of a pattern in its order with their events
abbrev pub keeps_conditions : List (List Event) → List Choice → Bool
keeps_conditions segments choices =
    list_all is_like_atom choices
    && all_pairs agree (flat_map bindings choices)
    && all_pairs keep_threads choices
    && all_pairs (keep_regions segments) choices
    && all_pairs are_apart choices
    && all_pairs rise choices

-- a list of events is an instance of a property in a window: one event for each atom, in the order of the pattern, under the conditions
abbrev pub is_instance : WindowForm → PropertyForm → List EventId → Bool
is_instance window property ids =
    length ids == length (atoms_of property)
    && keeps_conditions window.segments (choices_of window.segments (atoms_of property) ids)
