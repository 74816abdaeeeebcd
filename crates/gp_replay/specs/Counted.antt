-- Which events have happened: those that their threads have counted.
use Rattle.std.specs.Prelude.{◌↔◌, ◌<◌, Contains, List}
use Rattle.gp_window.specs.declared.schedule.EventId.{EventId}
use Rattle.gp_window.specs.WindowForm.{WindowForm}
use Rattle.gp_replay.specs.declared.state.State.{State}
use Rattle.gp_replay.specs.Feasible.{Runs}
use Rattle.gp_replay.specs.Step.{count_of, start_state}

-- an event is in a feasible schedule exactly where its index is below the count of its thread in the last state
abbrev pub EventsAreCounted : Type 0
EventsAreCounted = (window : WindowForm) (ids : List EventId) (last : State) → Runs window (start_state window) ids last
    → (id : EventId) → Contains ids id ↔ (id.index < count_of last id.thread)
