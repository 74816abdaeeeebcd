-- A schedule as one code flow: a flow for each thread that has an event in it, and each event with its place in the schedule.
use Rattle.std.specs.Prelude.{ℕ, Bool, ◌==◌, List, [], ◌∷◌, codes, decimal, filter, length, map}
use Rattle.std.specs.List.{enumerate_from, list_any}
use Rattle.gp_json.specs.Json.{Json, array, named, object}
use Rattle.gp_json.specs.Json.Json.{Number, Text}
use Rattle.gp_place.specs.declared.places.Places.{Places}
use Rattle.gp_window.specs.WindowForm.{WindowForm, numbers_from}
use Rattle.gp_window.specs.declared.schedule.EventId.{EventId}
use Rattle.gp_sarif.specs.Locations.{location_value}

-- an event, with its place in the schedule, from 1
unfoldable pub step_value : Places → WindowForm → ℕ × EventId → Json
step_value places window step = object (
    named (codes "location") (location_value places window step.1)
    ∷ named (codes "executionOrder") (Number step.0) ∷ [])

-- whether an event of a schedule is of this thread
abbrev pub is_step_of : ℕ → ℕ × EventId → Bool
is_step_of thread step = step.1.thread == thread

-- the events of a thread in a schedule
abbrev pub steps_of : ℕ → List EventId → List (ℕ × EventId)
steps_of thread schedule = filter (is_step_of thread) (enumerate_from 1 schedule)

-- what a thread does in a schedule
unfoldable pub flow_value : Places → WindowForm → List EventId → ℕ → Json
flow_value places window schedule thread = object (
    named (codes "id") (Text (decimal thread))
    ∷ named (codes "locations") (array (map (step_value places window) (steps_of thread schedule))) ∷ [])

-- whether a thread has an event in a schedule
abbrev pub acts : List EventId → ℕ → Bool
acts schedule thread = list_any (λ (id : EventId). id.thread == thread) schedule

-- what each thread of a window does in a schedule, of those that have an event in it
abbrev pub flow_values : Places → WindowForm → List EventId → List Json
flow_values places window schedule = map (flow_value places window schedule) (filter (acts schedule) (numbers_from 1 (length window.segments)))

-- a schedule
unfoldable pub code_flow_value : Places → WindowForm → List EventId → Json
code_flow_value places window schedule = object (named (codes "threadFlows") (array (flow_values places window schedule)) ∷ [])
