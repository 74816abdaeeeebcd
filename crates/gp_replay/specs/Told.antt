-- What a thread holds, by its own trace and in the state.
use Rattle.std.specs.Prelude.{ℕ, ◌≡◌, ◌↔◌, List, Some}
use Rattle.gp_trace.specs.declared.lock_use.LockMode.{LockMode}
use Rattle.gp_window.specs.Modes.{mode_before}
use Rattle.gp_window.specs.WindowForm.{IsWindow, WindowForm}
use Rattle.gp_window.specs.declared.schedule.EventId.{EventId}
use Rattle.gp_replay.specs.declared.state.State.{State}
use Rattle.gp_replay.specs.Feasible.{Runs}
use Rattle.gp_replay.specs.HoldLaws.{IsHeldBy}
use Rattle.gp_replay.specs.Step.{count_of, start_state}

-- the event that a thread does next in a state
abbrev pub next_of : State → ℕ → EventId
next_of state thread = record { thread = thread; index = count_of state thread }

-- after a feasible schedule of a window, a thread holds a lock in a way exactly where it does so by its own trace, just before
-- its next event
abbrev pub HoldsAreTraced : Type 0
HoldsAreTraced = (window : WindowForm) (ids : List EventId) (last : State) → IsWindow window → Runs window (start_state window) ids last
    → (thread : ℕ) (lock : List ℕ) (mode : LockMode) → IsHeldBy last mode lock thread ↔ (mode_before window (next_of last thread) lock ≡ Some mode)
