-- The lines that task list writes.
use Rattle.std.specs.Prelude.{ℕ, ◌++◌, List, codes, decimal, flat_map}
use Rattle.gp_window.specs.declared.schedule.EventId.{EventId}
use Rattle.gp_window.specs.EventIds.{event_id_text}
use Rattle.gp_instance.specs.declared.instance.Instance.{Instance}

-- the line that begins what is told of window k
abbrev pub window_line : ℕ → List ℕ
window_line k = codes "window " ++ decimal k ++ codes "\n"

-- the line that begins what is told of a property: its name, and how many instances it has
abbrev pub property_line : List ℕ → List ℕ → List ℕ
property_line name many = codes "property " ++ name ++ codes " " ++ many ++ codes "\n"

-- an event after a space
abbrev pub event_text : EventId → List ℕ
event_text id = codes " " ++ event_id_text id

-- the instance of this number
abbrev pub instance_line : ℕ → Instance → List ℕ
instance_line number instance = codes "instance " ++ decimal number ++ flat_map event_text instance.events ++ codes "\n"

-- how many instances are told
abbrev pub total_line : ℕ → List ℕ
total_line total = codes "total " ++ decimal total ++ codes "\n"
