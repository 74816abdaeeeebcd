-- The run of the simulated program.
use Rattle.std.specs.Prelude.{ℕ, zero, suc, ◌+◌, ◌-◌, ◌*◌, ◌/◌, min, List, map}
use Rattle.std.specs.List.{range_with_len}
use Rattle.gp_make.specs.declared.action.Event.{Event}
use Rattle.gp_make.specs.declared.program.Program.{Program}
use Rattle.gp_make.specs.declared.recipe.Recipe.{Recipe}
use Rattle.gp_make.specs.Program.{first_program, step}

-- the program after so many events
unfoldable pub program_after : Recipe → ℕ → Program
program_after recipe zero = first_program recipe.seed
program_after recipe (suc number) = (step recipe.threads number (program_after recipe number)).1

-- the event of this number, counted from 0
unfoldable pub event_of : Recipe → ℕ → Event
event_of recipe number = (step recipe.threads number (program_after recipe number)).0

-- how many windows so many events have: 200 events each, the last one with the rest
abbrev pub windows_of : ℕ → ℕ
windows_of events = (events + 199) / 200

-- how many events come before a window, the windows counted from 1
abbrev pub events_before : ℕ → ℕ
events_before window = 200 * (window - 1)

-- the events of a window
unfoldable pub window_events : Recipe → ℕ → List Event
window_events recipe window =
    map (event_of recipe) (range_with_len (events_before window) (min 200 (recipe.events - events_before window)))

-- the values with which a window begins
abbrev pub start_values : Recipe → ℕ → List ℕ
start_values recipe window = (program_after recipe (events_before window)).values

-- the windows from 2 on, before each of which there is a mark
abbrev pub later_windows : ℕ → List ℕ
later_windows events = range_with_len 2 (windows_of events - 1)
