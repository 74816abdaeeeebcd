-- What an event of a schedule looks back at, of the events before it.
use Rattle.std.specs.Prelude.{Bool, ◌==◌, List, Option, Some, None, if◌then◌else◌, reverse}
use Rattle.std.specs.List.{find}
use Rattle.gp_trace.specs.LockUse.{lock_use_of}
use Rattle.gp_trace.specs.declared.event.Event.{Event}
use Rattle.gp_trace.specs.declared.event.Event.TheVariants.{Read, Join}
use Rattle.gp_trace.specs.declared.lock_use.LockUse.{LockUse}
use Rattle.gp_trace.specs.declared.lock_use.LockUse.TheVariants.{Take}
use Rattle.gp_window.specs.Events.{event_at}
use Rattle.gp_window.specs.WindowForm.{WindowForm}
use Rattle.gp_window.specs.declared.schedule.EventId.{EventId}
use Rattle.gp_story.specs.declared.story.Source.{Source}
use Rattle.gp_story.specs.declared.story.Source.TheVariants.{Nothing, Beginning, Earlier}
use Rattle.gp_story.specs.Deeds.{frees, is_done_by, starts, writes}

-- the last of these events that passes
abbrev pub last_where : (EventId → Bool) → List EventId → Option EventId
last_where test ids = find test (reverse ids)

-- an earlier event, or the beginning of the window where there is none
abbrev pub or_beginning : Option EventId → Source
or_beginning (Some id) = Earlier id
or_beginning None = Beginning

-- who takes a lock looks back at the last event that gave it back and so let it in
abbrev pub source_of_use : WindowForm → List EventId → Option LockUse → Source
source_of_use window before (Some (Take mode lock)) = or_beginning (last_where (frees window mode lock) before)
source_of_use window before _ = Nothing

-- a read looks back at the last write of its variable, a join at the last event of its thread
abbrev pub source_of_event : WindowForm → List EventId → Event → Source
source_of_event window before (Read variable value) = or_beginning (last_where (writes window variable) before)
source_of_event window before (Join thread) = or_beginning (last_where (is_done_by window thread) before)
source_of_event window before event = source_of_use window before (lock_use_of event)

-- what an event looks back at, where there is one
abbrev pub source_of_found : WindowForm → List EventId → Option Event → Source
source_of_found window before (Some event) = source_of_event window before event
source_of_found window before None = Nothing

-- what the event that an id names looks back at, of these events before it
abbrev pub source_of : WindowForm → List EventId → EventId → Source
source_of window before id = source_of_found window before (event_at window id)

-- the event of these before it that starts the thread of an event, where that is there and is its thread's first
abbrev pub starter_of_found : WindowForm → List EventId → EventId → Option Event → Option EventId
starter_of_found window before id (Some event) = if id.index == 0 then last_where (starts window id.thread) before else None
starter_of_found window before id None = None

-- who started the thread of the event that an id names, of these events before it
abbrev pub starter_of : WindowForm → List EventId → EventId → Option EventId
starter_of window before id = starter_of_found window before id (event_at window id)
