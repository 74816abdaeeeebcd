-- All cycles of a window, in lexicographic order of their events.
use Rattle.std.specs.Prelude.{ℕ, zero, suc, List, [], ◌∷◌, filter, map, Result}
use Rattle.std.specs.List.{flat_map}
use Rattle.gp_window.specs.declared.schedule.EventId.{EventId}
use Rattle.gp_window.specs.WindowForm.{WindowForm}
use Rattle.gp_instance.specs.declared.instance.Instance.{Instance}
use Rattle.gp_instance.specs.declared.instance.InstancesFault.{InstancesFault}
use Rattle.gp_instance.specs.Instances.{ids_of, unless_too_many}
use Rattle.gp_stuck.specs.Cycle.{is_cycle}

-- all lists of up to so many of these elements, in lexicographic order, each before those that go on from it
abbrev pub lists_up_to : {A : Type 0} → ℕ → List A → List (List A)
lists_up_to zero elements = [] ∷ []
lists_up_to (suc more) elements = [] ∷ flat_map (λ first. map (λ rest. first ∷ rest) (lists_up_to more elements)) elements

-- the cycles of a window
abbrev pub cycles_of : WindowForm → List (List EventId)
cycles_of window = filter (is_cycle window) (lists_up_to 4 (ids_of window.segments))

-- what listing the cycles of a window gives: these, where they are not more than 10,000
unfoldable pub due_cycles : WindowForm → Result (List Instance) InstancesFault
due_cycles window = unless_too_many 0 (cycles_of window)
