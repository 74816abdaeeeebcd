-- What a window of a recording begins with, from the window before it.
use Rattle.std.specs.Prelude.{ℕ, ℤ, suc, ◌≡◌, ◌⊎◌, ◌↔◌, ◌≤◌, ◌<◌, ◌==◌, ◌&&◌, true, List, Option, Some, find, length, unwrap_or}
use Rattle.std.specs.Option.{option_map}
use Rattle.std.specs.Str.{bytes_eq}
use Rattle.gp_trace.specs.declared.event.Event.TheVariants.{Start}
use Rattle.gp_trace.specs.LockUse.{held_after_all, HeldLocks, LocksAreUsedWell, mode_held}
use Rattle.gp_window.specs.declared.manifest.StartValue.{StartValue}
use Rattle.gp_window.specs.declared.schedule.EventId.{EventId}
use Rattle.gp_window.specs.Events.{event_at, segment_of}
use Rattle.gp_window.specs.Formed.{mode_at_start}
use Rattle.gp_window.specs.RecordingForm.{IsRecording, RecordingForm}
use Rattle.gp_window.specs.Starts.{is_among}
use Rattle.gp_window.specs.WindowForm.{start_value, window_of, WindowForm}

-- the thread holds some locks when the window begins, its segment uses locks well, and with what it then holds it begins
-- the next window
pub record PassesLocks (window next : WindowForm) (thread : ℕ) : Type 0 where
  pub held : HeldLocks
  pub told : (lock : List ℕ) → mode_held held lock ≡ mode_at_start window thread lock
  pub well : LocksAreUsedWell held (segment_of window thread)
  pub left : (lock : List ℕ) → mode_held (held_after_all held (segment_of window thread)) lock ≡ mode_at_start next thread lock

-- the value that is given for a variable at the beginning of a window, where one is
abbrev pub given_for : List StartValue → ℕ → List ℕ → Option ℤ
given_for given window variable =
    option_map (λ value. value.value) (find (λ value. value.window == window && bytes_eq value.variable variable) given)

-- one window passes on to another: that has as many threads, begins with the locks and the started threads that this one
-- leaves once all of its events are done, and with the values that are given for it, and this one's where none is given
pub record PassesOn (given : List StartValue) (window next : WindowForm) : Type 0 where
  pub threads : length next.segments ≡ length window.segments
  pub locks : (thread : ℕ) → PassesLocks window next thread
  pub started : (thread : ℕ) → (is_among next.started thread ≡ true)
      ↔ ((is_among window.started thread ≡ true) ⊎ ((id : EventId) × (event_at window id ≡ Some (Start thread))))
  pub values : (variable : List ℕ) → start_value next variable ≡ unwrap_or (given_for given next.number variable) (start_value window variable)

-- each window of a recording passes on to the next one, with the values of its manifest
abbrev pub WindowsFollow : Type 0
WindowsFollow = (r : RecordingForm) (k : ℕ) → IsRecording r → 1 ≤ k → k < r.manifest.epochs → PassesOn r.manifest.values (window_of r k) (window_of r (suc k))
