-- What is kept of the events of a schedule so far: for each variable, lock and thread the last event that later ones look
-- back at.
use Rattle.std.specs.Prelude.{◌≡◌, ℕ, ◌==◌, List, Option, Some, None, if◌then◌else◌}
use Rattle.std.specs.Cmp.Lexicographic.{slice_cmp}
use Rattle.std.specs.Ordering.{nat_cmp}
use Rattle.std.specs.declared.cmp.Ordering.{Ordering}
use Rattle.gp_base.specs.Table.{value_at, with_entry}
use Rattle.gp_trace.specs.LockUse.{lock_use_of}
use Rattle.gp_trace.specs.declared.event.Event.{Event}
use Rattle.gp_trace.specs.declared.event.Event.TheVariants.{Read, Join}
use Rattle.gp_trace.specs.declared.lock_use.LockMode.{LockMode}
use Rattle.gp_trace.specs.declared.lock_use.LockMode.TheVariants.{Exclusive, Shared}
use Rattle.gp_trace.specs.declared.lock_use.LockUse.{LockUse}
use Rattle.gp_trace.specs.declared.lock_use.LockUse.TheVariants.{Take}
use Rattle.gp_window.specs.Events.{event_at}
use Rattle.gp_window.specs.WindowForm.{WindowForm}
use Rattle.gp_window.specs.declared.schedule.EventId.{EventId}
use Rattle.gp_story.specs.declared.past.Past.{Past}
use Rattle.gp_story.specs.declared.story.Source.{Source}
use Rattle.gp_story.specs.declared.story.Source.TheVariants.{Nothing}
use Rattle.gp_story.specs.Deeds.{frees, is_done_by, lock_freed, starts, thread_started, variable_written, writes}
use Rattle.gp_story.specs.Source.{last_where, or_beginning}

-- each table tells of its key the last of these events that later ones look back at
pub record Recalls (window : WindowForm) (before : List EventId) (past : Past) : Type 0 where
  pub written : (variable : List ℕ) → value_at (slice_cmp nat_cmp) past.written variable ≡ last_where (writes window variable) before
  pub freed : (lock : List ℕ) → value_at (slice_cmp nat_cmp) past.freed lock ≡ last_where (frees window Exclusive lock) before
  pub released : (lock : List ℕ) → value_at (slice_cmp nat_cmp) past.released lock ≡ last_where (frees window Shared lock) before
  pub started : (thread : ℕ) → value_at nat_cmp past.started thread ≡ last_where (starts window thread) before
  pub done : (thread : ℕ) → value_at nat_cmp past.done thread ≡ last_where (is_done_by window thread) before

-- the events with this one as the last at the key, where there is a key
abbrev pub with_last : {K : Type 0} → (K → K → Ordering) → List (K × EventId) → Option K → EventId → List (K × EventId)
with_last cmp last (Some key) id = with_entry cmp last key id
with_last cmp last None id = last

-- what is kept after an event that does this
abbrev pub after_event : Event → EventId → Past → Past
after_event event id past = record {
  written = with_last (slice_cmp nat_cmp) past.written (variable_written event) id;
  freed = with_last (slice_cmp nat_cmp) past.freed (lock_freed Exclusive (lock_use_of event)) id;
  released = with_last (slice_cmp nat_cmp) past.released (lock_freed Shared (lock_use_of event)) id;
  started = with_last nat_cmp past.started (thread_started event) id;
  done = with_entry nat_cmp past.done id.thread id;
}

-- what is kept after an event that an id names, where there is one
abbrev pub after_found : Option Event → EventId → Past → Past
after_found (Some event) id past = after_event event id past
after_found None id past = past

-- what is kept after the event that an id names
abbrev pub after_id : WindowForm → EventId → Past → Past
after_id window id past = after_found (event_at window id) id past

-- the event that let in who takes a lock in this way, by the tables
abbrev pub freed_for : Past → LockMode → List ℕ → Option EventId
freed_for past Exclusive lock = value_at (slice_cmp nat_cmp) past.freed lock
freed_for past Shared lock = value_at (slice_cmp nat_cmp) past.released lock

-- what an event looks back at, by the tables
abbrev pub recalled_use : Past → Option LockUse → Source
recalled_use past (Some (Take mode lock)) = or_beginning (freed_for past mode lock)
recalled_use past _ = Nothing

abbrev pub recalled_event : Past → Event → Source
recalled_event past (Read variable value) = or_beginning (value_at (slice_cmp nat_cmp) past.written variable)
recalled_event past (Join thread) = or_beginning (value_at nat_cmp past.done thread)
recalled_event past event = recalled_use past (lock_use_of event)

abbrev pub recalled_found : Past → Option Event → Source
recalled_found past (Some event) = recalled_event past event
recalled_found past None = Nothing

abbrev pub recalled : WindowForm → Past → EventId → Source
recalled window past id = recalled_found past (event_at window id)

-- who started the thread of an event, by the tables
abbrev pub recalled_starter_found : Past → EventId → Option Event → Option EventId
recalled_starter_found past id (Some event) = if id.index == 0 then value_at nat_cmp past.started id.thread else None
recalled_starter_found past id None = None

abbrev pub recalled_starter : WindowForm → Past → EventId → Option EventId
recalled_starter window past id = recalled_starter_found past id (event_at window id)
