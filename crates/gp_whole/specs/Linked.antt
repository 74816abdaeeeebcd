-- Linked windows.
use Rattle.std.specs.Prelude.{ℕ, suc, ◌≡◌, ◌≤◌, ◌<◌, List, Some, Contains, length, replicate}
use Rattle.gp_trace.specs.declared.event.Event.{Event}
use Rattle.gp_window.specs.declared.schedule.EventId.{EventId}
use Rattle.gp_window.specs.Events.{event_at}
use Rattle.gp_window.specs.RecordingForm.{IsRecording, RecordingForm}
use Rattle.gp_window.specs.WindowForm.{window_of, WindowForm}
use Rattle.gp_replay.specs.declared.state.State.{State}
use Rattle.gp_replay.specs.Alike.{Alike}
use Rattle.gp_replay.specs.Feasible.{Runs}
use Rattle.gp_replay.specs.Step.{start_state, value_of}

-- a schedule links a window to the next: it is feasible and has each event of the window, and after it each variable has the
-- value with which the next window begins
pub record Links (window next : WindowForm) (ids : List EventId) : Type 0 where
  pub last : State
  pub runs : Runs window (start_state window) ids last
  pub whole : (id : EventId) (event : Event) → event_at window id ≡ Some event → Contains ids id
  pub values : (variable : List ℕ) → value_of last variable ≡ value_of (start_state next) variable

-- some schedule links the window to the next
abbrev pub IsLinked : WindowForm → WindowForm → Type 0
IsLinked window next = (ids : List EventId) × Links window next ids

-- the state in which a window begins again: nothing of the window is done, and all else is as it was
abbrev pub begun_again : WindowForm → State → State
begun_again window state = record state { counts = replicate (length window.segments) 0 }

-- after a schedule that links a window of a recording to the next, the state in which the next window begins again tells the
-- same as that window's start state
abbrev pub LinksLeadOn : Type 0
LinksLeadOn = (r : RecordingForm) (k : ℕ) (ids : List EventId) → IsRecording r → 1 ≤ k → k < r.manifest.epochs
    → (links : Links (window_of r k) (window_of r (suc k)) ids)
    → Alike (begun_again (window_of r (suc k)) links.last) (start_state (window_of r (suc k)))
