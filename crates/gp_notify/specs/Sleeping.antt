-- The sleep of a wake, looked for backwards along the events of its thread.
use Rattle.std.specs.Prelude.{ℕ, zero, suc, List, Option, Some, None, if◌then◌else◌, slice_get}
use Rattle.std.specs.Str.{bytes_eq}
use Rattle.gp_trace.specs.declared.event.Event.{Event}
use Rattle.gp_window.specs.declared.schedule.EventId.{EventId}
use Rattle.gp_window.specs.Events.{segment_of}
use Rattle.gp_window.specs.WindowForm.{WindowForm}
use Rattle.gp_notify.specs.declared.call.Call.{Call}
use Rattle.gp_notify.specs.declared.call.Call.TheVariants.{Sleep, Wake}
use Rattle.gp_notify.specs.Calls.{call_at, call_in}

-- a sleep on the condition at this index is found, and a wake from it ends the search; else it goes on
abbrev pub turned : List ℕ → Option Call → ℕ → Option ℕ → Option ℕ
turned condition (Some (Sleep other)) index rest = if bytes_eq condition other then Some index else rest
turned condition (Some (Wake other)) index rest = if bytes_eq condition other then None else rest
turned condition _ index rest = rest

-- the index of the last sleep on the condition among so many first events, where no wake from it comes later
abbrev pub slept_at : List ℕ → List Event → ℕ → Option ℕ
slept_at condition events zero = None
slept_at condition events (suc index) = turned condition (call_in (slice_get events index)) index (slept_at condition events index)

-- the index of the sleep of a wake, by what its event does, where it is one and has one
abbrev pub sleep_for : WindowForm → EventId → Option Call → Option ℕ
sleep_for window wake (Some (Wake condition)) = slept_at condition (segment_of window wake.thread) wake.index
sleep_for window wake _ = None

abbrev pub sleep_index : WindowForm → EventId → Option ℕ
sleep_index window wake = sleep_for window wake (call_at window wake)
