-- The search for instances. Each atom begins with its candidates; after a choice each later atom keeps those that may
-- stand beside it, so that what is left of the last atom's is exactly what completes the choices before it.
use Rattle.std.specs.Prelude.{ℕ, ◌≡◌, ◌<◌, ◌≤◌, ◌^◌, All, length, Bool, not, ◌==◌, ◌&&◌, ◌||◌, nat_lt, List, [], ◌∷◌, Option, Some, None, filter, if◌then◌else◌, map, zip, ◌++◌}
use Rattle.std.specs.List.{list_all, list_any, flat_map}
use Rattle.std.specs.Str.{bytes_eq}
use Rattle.gp_base.specs.LimitLaws.{up_to}
use Rattle.gp_trace.specs.declared.event.Event.{Event}
use Rattle.gp_window.specs.declared.schedule.EventId.{EventId}
use Rattle.gp_property.specs.declared.atoms.PatternAtom.{PatternAtom}
use Rattle.gp_instance.specs.declared.chosen.Chosen.{Chosen}
use Rattle.gp_instance.specs.Instance.{agree, bindings, choice_of, closes, is_at, is_like_atom, is_same_mark}
use Rattle.gp_window.specs.Events.{segment_in}
use Rattle.gp_window.specs.Ids.{is_same}
use Rattle.gp_instance.specs.declared.instance.Instance.{Instance}
use Rattle.gp_instance.specs.Instances.{ids_of, numbered}
use Rattle.gp_instance.specs.Pairs.{all_pairs}
use Rattle.gp_instance.specs.Region.{end_of}
use Rattle.gp_instance.specs.Shape.{binding_of}
use Rattle.gp_property.specs.declared.property.Term.{Term}

-- an atom may stand for this event, by its kind, names and constants, and its parameters agree with one another
unfoldable pub is_candidate : List (List Event) → PatternAtom → EventId → Bool
is_candidate segments atom id =
    is_like_atom (choice_of segments atom id) && all_pairs agree (bindings (choice_of segments atom id))

-- where the region ends that this event opens for an atom that opens one
abbrev pub end_if_opened : List (List Event) → Option ℕ → EventId → Option ℕ
end_if_opened segments None id = None
end_if_opened segments (Some n) id = end_of (segment_in segments id.thread) id.index

-- an event that was chosen for an atom, with what later choices are tested against
abbrev pub chosen_of : List (List Event) → PatternAtom → EventId → Chosen
chosen_of segments atom id = record {
  step = atom.step;
  thread_var = atom.thread_var;
  opens = atom.opens;
  closes = atom.closes;
  id = id;
  bindings = bindings (choice_of segments atom id);
  region_end = end_if_opened segments atom.opens id;
}

-- the threads are equal exactly where the thread variables are
abbrev pub keeps_thread : Chosen → PatternAtom → EventId → Bool
keeps_thread chosen atom id =
    if bytes_eq chosen.thread_var atom.thread_var then chosen.id.thread == id.thread else not (chosen.id.thread == id.thread)

-- a later event of the same thread, unless it is of the same step
abbrev pub rises_from : Chosen → PatternAtom → EventId → Bool
rises_from chosen atom id = not (chosen.id.thread == id.thread) || chosen.step == atom.step || nat_lt chosen.id.index id.index

-- the event ends the region that the chosen one opened, where the atom closes that region
abbrev pub ends_region : Chosen → PatternAtom → EventId → Bool
ends_region chosen atom id =
    not (is_same_mark chosen.opens atom.closes) || (chosen.id.thread == id.thread && is_at chosen.region_end id.index)

-- the chosen event ends the region that this one opens, where its atom closes that region
abbrev pub opens_region : List (List Event) → Chosen → PatternAtom → EventId → Bool
opens_region segments chosen atom id = not (is_same_mark atom.opens chosen.closes) || closes segments id chosen.id

-- these parameters agree with each of those
abbrev pub all_agree : List (List ℕ × List ℕ) → List (List ℕ × List ℕ) → Bool
all_agree ones others = list_all (λ one. list_all (agree one) others) ones

-- an event of a later atom may stand beside one that was chosen
unfoldable pub may_stand : List (List Event) → Chosen → PatternAtom → EventId → Bool
may_stand segments chosen atom id =
    keeps_thread chosen atom id && not (is_same chosen.id id) && rises_from chosen atom id
    && ends_region chosen atom id && opens_region segments chosen atom id
    && all_agree chosen.bindings (bindings (choice_of segments atom id))

-- the events that an atom may stand for by itself, in order
abbrev pub candidates_of : List (List Event) → PatternAtom → List EventId
candidates_of segments atom = filter (is_candidate segments atom) (ids_of segments)

-- for each later atom those of its events that may stand beside the chosen one
abbrev pub narrowed : List (List Event) → Chosen → List PatternAtom → List (List EventId) → List (List EventId)
narrowed segments chosen [] domains = []
narrowed segments chosen (atom ∷ atoms) [] = []
narrowed segments chosen (atom ∷ atoms) (ids ∷ domains) =
    filter (may_stand segments chosen atom) ids ∷ narrowed segments chosen atoms domains

-- all choices of one event of each atom's that may stand beside one another, in lexicographic order
abbrev pub search : List (List Event) → List PatternAtom → List (List EventId) → List (List EventId)
search segments [] domains = [] ∷ []
search segments (atom ∷ atoms) [] = []
search segments (atom ∷ atoms) (ids ∷ domains) =
    flat_map (λ id. map (λ rest. id ∷ rest) (search segments atoms (narrowed segments (chosen_of segments atom id) atoms domains))) ids

-- nothing is left
abbrev pub is_dead : List EventId → Bool
is_dead ids = length ids == 0

-- the events of each atom, where each atom has one
abbrev pub unless_dead : List (List EventId) → Option (List (List EventId))
unless_dead domains = if list_any is_dead domains then None else Some domains

-- threads and indexes can be numbered
pub record AreSmall (segments : List (List Event)) : Type 0 where
  pub threads : length segments ≤ 64
  pub events : All (λ segment. length segment < 2 ^ 32) segments

-- the instance of a front of events and those that complete it
abbrev pub instance_after : ℕ → List EventId → List EventId → Instance
instance_after number front rest = numbered number (front ++ rest)

-- what was found and what more is found, up to one more than are listed
unfoldable pub first_instances : List Instance → List Instance → List Instance
first_instances found more = up_to 10001 found more

-- a binding agrees with what the parameters among these terms stand for
abbrev pub agrees_along : List ℕ × List ℕ → List Term → List (List ℕ) → Bool
agrees_along binding terms names = list_all (λ pair. list_all (agree binding) (binding_of pair)) (zip terms names)

-- from these events of each atom the search finds what it finds from those
abbrev pub FindsSame : List (List Event) → List PatternAtom → List (List EventId) → List (List EventId) → Type 0
FindsSame segments atoms due left = (search segments atoms left ≡ search segments atoms due) × (length left ≡ length atoms)

-- these events are left for the atoms; nothing is left only where no list completes the choices before
abbrev pub Leaves : List (List Event) → List PatternAtom → List (List EventId) → Option (List (List EventId)) → Type 0
Leaves segments atoms due None = search segments atoms due ≡ []
Leaves segments atoms due (Some left) = FindsSame segments atoms due left
