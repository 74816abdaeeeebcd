-- With what other threads have to do.
use Rattle.std.specs.Prelude.{ℕ, Bool, true, false, not, ◌==◌, ◌&&◌, ◌||◌, List, Option, Some, None, length, option_map}
use Rattle.std.specs.List.{list_any}
use Rattle.std.specs.Option.{option_eq}
use Rattle.std.specs.Str.{bytes_eq}
use Rattle.gp_trace.specs.LockUse.{lock_use_of}
use Rattle.gp_trace.specs.declared.event.Event.{Event}
use Rattle.gp_trace.specs.declared.event.Event.TheVariants.{Read, Write, Start, Join}
use Rattle.gp_trace.specs.declared.lock_use.LockUse.{LockUse}
use Rattle.gp_window.specs.Contested.{is_held_beside}
use Rattle.gp_window.specs.Events.{event_at, segment_of}
use Rattle.gp_window.specs.WindowForm.{held_at_start, numbers_from, WindowForm}
use Rattle.gp_window.specs.declared.schedule.EventId.{EventId}
use Rattle.gp_story.specs.Deeds.{lock_of, variable_of}

-- whether an event reads or writes the variable
abbrev pub accesses : List ℕ → Event → Bool
accesses variable event = option_eq bytes_eq (variable_of event) (Some variable)

-- whether an event takes the lock or gives it back
abbrev pub uses : List ℕ → Event → Bool
uses lock event = option_eq bytes_eq (option_map lock_of (lock_use_of event)) (Some lock)

-- whether a thread other than this one has an event in the window that passes, executed or not
abbrev pub is_done_beside : WindowForm → (Event → Bool) → ℕ → Bool
is_done_beside window test thread =
    list_any (λ other. not (other == thread) && list_any test (segment_of window other)) (numbers_from 1 (length window.segments))

-- whether another thread reads or writes the variable
abbrev pub is_accessed_beside : WindowForm → List ℕ → ℕ → Bool
is_accessed_beside window variable thread = is_done_beside window (accesses variable) thread

-- whether another thread holds the lock when the window begins, or uses it
abbrev pub is_used_beside : WindowForm → List ℕ → ℕ → Bool
is_used_beside window lock thread = is_held_beside (held_at_start window) lock thread || is_done_beside window (uses lock) thread

-- whether another thread has to do with a lock that this one uses, where it uses one
abbrev pub shares_use : WindowForm → ℕ → Option LockUse → Bool
shares_use window thread None = false
shares_use window thread (Some lock_use) = is_used_beside window (lock_of lock_use) thread

-- whether other threads have to do with an event of a thread: it starts or joins one, or uses what another one uses
abbrev pub shares_event : WindowForm → ℕ → Event → Bool
shares_event window thread (Start other) = true
shares_event window thread (Join other) = true
shares_event window thread (Read variable value) = is_accessed_beside window variable thread
shares_event window thread (Write variable value) = is_accessed_beside window variable thread
shares_event window thread event = shares_use window thread (lock_use_of event)

-- the same of an event, where there is one
abbrev pub shares_found : WindowForm → ℕ → Option Event → Bool
shares_found window thread (Some event) = shares_event window thread event
shares_found window thread None = false

-- whether other threads have to do with the event that an id names
abbrev pub shares : WindowForm → EventId → Bool
shares window id = shares_found window id.thread (event_at window id)
