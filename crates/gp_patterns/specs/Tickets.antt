-- How many instances there are, and how many of them are asked.
use Rattle.std.specs.Prelude.{ℕ, ◌+◌, ◌*◌, List, [], ◌∷◌, Option, None, Some, Result, Ok, Err, if◌then◌else◌, length, nat_lt, sum_by}
use Rattle.gp_constraint.specs.declared.fault.BaseFault.{BaseFault}
use Rattle.gp_constraint.specs.Encoded.{base_due}
use Rattle.gp_instance.specs.declared.instance.Instance.{Instance}
use Rattle.gp_instance.specs.declared.instance.InstancesFault.{InstancesFault}
use Rattle.gp_instance.specs.Instances.{due_instances}
use Rattle.gp_property.specs.PropertyForm.{PropertyForm}
use Rattle.gp_window.specs.RecordingForm.{RecordingForm}
use Rattle.gp_window.specs.WindowForm.{WindowForm, numbers_from, window_of}

-- how many instances are listed of a property; of one that has too many, none
abbrev pub listed_count : Result (List Instance) InstancesFault → ℕ
listed_count (Ok listed) = length listed
listed_count (Err fault) = 0

-- how many instances are listed of these properties in a window, the first of which has this number
abbrev pub properties_count : WindowForm → ℕ → List PropertyForm → ℕ
properties_count window number [] = 0
properties_count window number (property ∷ properties) =
    listed_count (due_instances window property number) + properties_count window (number + 1) properties

-- how many of so many instances are asked in a window that has these constraints: none where it is too large
abbrev pub asked_of : Result WindowForm BaseFault → ℕ → ℕ
asked_of (Ok encoded) count = count
asked_of (Err fault) count = 0

-- how many instances are asked in a window
abbrev pub window_asked : List PropertyForm → WindowForm → ℕ
window_asked properties window = asked_of (base_due window) (properties_count window 0 properties)

-- how many instances are asked in window k
abbrev pub asked_in : RecordingForm → List PropertyForm → ℕ → ℕ
asked_in recording properties k = window_asked properties (window_of recording k)

-- how many instances are asked in all windows
abbrev pub asked_total : RecordingForm → List PropertyForm → ℕ
asked_total recording properties = sum_by (asked_in recording properties) (numbers_from 1 recording.manifest.epochs)

-- how many instances are asked, where that times a budget is over 1,000,000
abbrev pub too_much : RecordingForm → List PropertyForm → ℕ → Option ℕ
too_much recording properties budget =
    if nat_lt 1000000 (asked_total recording properties * budget) then Some (asked_total recording properties) else None
