-- What comes before an event, and before a join.
use Rattle.std.specs.Prelude.{ℕ, ◌≡◌, ◌↔◌, ◌⊎◌, ◌<◌, true, Contains, List, ◌∷◌, ◌++◌, Some}
use Rattle.gp_trace.specs.declared.event.Event.TheVariants.{Start, Join}
use Rattle.gp_window.specs.declared.schedule.EventId.{EventId}
use Rattle.gp_window.specs.WindowForm.{WindowForm}
use Rattle.gp_window.specs.Events.{event_at}
use Rattle.gp_window.specs.Starts.{is_among}
use Rattle.gp_replay.specs.declared.state.State.{State}
use Rattle.gp_replay.specs.Feasible.{IsFeasible, Runs}
use Rattle.gp_replay.specs.Step.{count_of, start_state}
use Rattle.gp_window.specs.Events.{size_of}
use Rattle.gp_replay.specs.Part.{events_from, part_of}

-- the event starts the thread
abbrev pub Starts : WindowForm → EventId → ℕ → Type 0
Starts window id thread = event_at window id ≡ Some (Start thread)

-- the event joins the thread
abbrev pub Joins : WindowForm → EventId → ℕ → Type 0
Joins window id thread = event_at window id ≡ Some (Join thread)

-- one of the events starts the thread
abbrev pub IsStartedBy : WindowForm → List EventId → ℕ → Type 0
IsStartedBy window ids thread = (id : EventId) × Contains ids id × Starts window id thread

-- in a feasible schedule the thread of each event is started when the window begins, or by an event before it
abbrev pub StartsComeFirst : Type 0
StartsComeFirst = (window : WindowForm) (prefix : List EventId) (id : EventId) (back : List EventId) → IsFeasible window (prefix ++ id ∷ back)
    → (is_among window.started id.thread ≡ true) ⊎ IsStartedBy window prefix id.thread

-- in a feasible schedule a thread that is joined exits, and all events of its segment come before the join
abbrev pub JoinsComeLast : Type 0
JoinsComeLast = (window : WindowForm) (prefix : List EventId) (id : EventId) (back : List EventId) (thread : ℕ)
    → IsFeasible window (prefix ++ id ∷ back) → Joins window id thread
    → (is_among window.exited thread ≡ true) × (part_of thread prefix ≡ events_from thread 0 (size_of window thread))

-- after a feasible schedule a thread is started exactly where it was when the window begins, or where an event of the schedule
-- starts it; and each thread that has done something is started
pub record ThreadsAreStarted : Type 0 where
  pub exactly : (window : WindowForm) (ids : List EventId) (last : State) → Runs window (start_state window) ids last
      → (thread : ℕ) → (is_among last.started thread ≡ true) ↔ ((is_among window.started thread ≡ true) ⊎ IsStartedBy window ids thread)
  pub doers : (window : WindowForm) (ids : List EventId) (last : State) → Runs window (start_state window) ids last
      → (thread : ℕ) → 0 < count_of last thread → is_among last.started thread ≡ true
