-- The events of a window: the segment of a thread, and the event that an id names.
use Rattle.std.specs.Prelude.{ℕ, zero, suc, Bool, List, [], Option, length, slice_get, unwrap_or}
use Rattle.gp_trace.specs.declared.event.Event.{Event}
use Rattle.gp_window.specs.declared.schedule.EventId.{EventId}
use Rattle.gp_window.specs.Starts.{is_thread}
use Rattle.gp_window.specs.WindowForm.{WindowForm}

-- the segment of a thread, of segments in order of thread; threads count from 1, and where there is
-- no such thread there are no events
abbrev pub segment_in : List (List Event) → ℕ → List Event
segment_in segments zero = []
segment_in segments (suc place) = unwrap_or (slice_get segments place) []

-- the event that an id names in such segments, where there is one
abbrev pub event_in : List (List Event) → EventId → Option Event
event_in segments id = slice_get (segment_in segments id.thread) id.index

-- whether a thread is one of the window's
abbrev pub has_thread : WindowForm → ℕ → Bool
has_thread window thread = is_thread (length window.segments) thread

-- the events of a thread in a window
abbrev pub segment_of : WindowForm → ℕ → List Event
segment_of window thread = segment_in window.segments thread

-- how many events a thread has in a window
abbrev pub size_of : WindowForm → ℕ → ℕ
size_of window thread = length (segment_of window thread)

-- the event of a window that an id names, where there is one
abbrev pub event_at : WindowForm → EventId → Option Event
event_at window id = event_in window.segments id
