-- All instances of a property in a window, in lexicographic order of their events.
use Rattle.std.specs.Prelude.{ℕ, zero, suc, ◌+◌, ◌++◌, nat_lt, List, [], ◌∷◌, length, filter, map, Result, Ok, Err, if◌then◌else◌}
use Rattle.std.specs.List.{flat_map}
use Rattle.gp_trace.specs.declared.event.Event.{Event}
use Rattle.gp_window.specs.declared.schedule.EventId.{EventId}
use Rattle.gp_window.specs.WindowForm.{WindowForm}
use Rattle.gp_property.specs.PropertyForm.{PropertyForm}
use Rattle.gp_instance.specs.declared.instance.Instance.{Instance}
use Rattle.gp_instance.specs.declared.instance.InstancesFault.{InstancesFault}
use Rattle.gp_instance.specs.declared.instance.InstancesFault.TheVariants.{TooMany}
use Rattle.gp_property.specs.Atoms.{atoms_of}
use Rattle.gp_instance.specs.Instance.{is_instance}

-- the ids of these events of a thread, the first of which has this index
abbrev pub ids_in : ℕ → ℕ → List Event → List EventId
ids_in thread index [] = []
ids_in thread index (event ∷ events) = (record { thread = thread; index = index }) ∷ ids_in thread (index + 1) events

-- the ids of the events of these threads, the first of which has this number
abbrev pub ids_from : ℕ → List (List Event) → List EventId
ids_from thread [] = []
ids_from thread (segment ∷ segments) = ids_in thread 0 segment ++ ids_from (thread + 1) segments

-- the ids of all events of a window, by thread and then by index
abbrev pub ids_of : List (List Event) → List EventId
ids_of segments = ids_from 1 segments

-- all lists of so many of these elements, in lexicographic order
abbrev pub lists_of : {A : Type 0} → ℕ → List A → List (List A)
lists_of zero elements = [] ∷ []
lists_of (suc more) elements = flat_map (λ first. map (λ rest. first ∷ rest) (lists_of more elements)) elements

-- the instances of a property in a window, in lexicographic order, each once
abbrev pub instances_of : WindowForm → PropertyForm → List (List EventId)
instances_of window property =
    filter (is_instance window property) (lists_of (length (atoms_of property)) (ids_of window.segments))

-- an instance of the property of this number
abbrev pub numbered : ℕ → List EventId → Instance
numbered number ids = record { property = number; events = ids }

-- these instances, where they are not more than 10,000
abbrev pub unless_too_many : ℕ → List (List EventId) → Result (List Instance) InstancesFault
unless_too_many number found = if nat_lt 10000 (length found) then Err TooMany else Ok (map (numbered number) found)

-- what listing the instances of the property of this number gives
unfoldable pub due_instances : WindowForm → PropertyForm → ℕ → Result (List Instance) InstancesFault
due_instances window property number = unless_too_many number (instances_of window property)
