-- The step: what the next event of a schedule does, or the first rule by which it may not happen.
--
-- This is sequential consistency, with each read bound to the value that was recorded for it: a
-- thread does its own events in order, it does none before it is started, and a read finds what was
-- last written, by whatever thread. A lock has one holder at a time, or any number of readers, and a
-- join waits for the end of its thread.
use Rattle.std.specs.Prelude.{ℕ, ℤ, zero, suc, Bool, ◌&&◌, ◌||◌, ◌+◌, ◌++◌, ◌==◌, List, [], ◌∷◌, Option, Some, None, Result, Ok, Err, is_some, if◌then◌else◌, slice_index, slice_set, length, replicate}
use Rattle.std.specs.Ordering.{nat_cmp, int_eq}
use Rattle.std.specs.Cmp.Lexicographic.{slice_cmp}
use Rattle.gp_base.specs.Results.{and_then}
use Rattle.gp_base.specs.Table.{value_at, with_entry, without_entry, with_entries}
use Rattle.gp_trace.specs.LockUse.{lock_use_of}
use Rattle.gp_trace.specs.declared.event.Event.{Event}
use Rattle.gp_trace.specs.declared.event.Event.TheVariants.{Read, Write, Start, Join}
use Rattle.gp_trace.specs.declared.lock_use.LockMode.{LockMode}
use Rattle.gp_trace.specs.declared.lock_use.LockMode.TheVariants.{Exclusive, Shared}
use Rattle.gp_trace.specs.declared.lock_use.LockUse.{LockUse}
use Rattle.gp_trace.specs.declared.lock_use.LockUse.TheVariants.{Take, GiveBack}
use Rattle.gp_window.specs.Events.{event_at, size_of}
use Rattle.gp_window.specs.Starts.{is_among}
use Rattle.gp_window.specs.WindowForm.{value_in, WindowForm}
use Rattle.gp_window.specs.declared.schedule.EventId.{EventId}
use Rattle.gp_replay.specs.Readers.{has_reader, with_reader, with_readers, without_reader}
use Rattle.gp_replay.specs.declared.state.State.{State}
use Rattle.gp_replay.specs.declared.rule.Rule.{Rule}
use Rattle.gp_replay.specs.declared.rule.Rule.TheVariants.{NotNext, NotStarted, LockHeld, WrongValue, NotExited}

-- how many of its events a thread has done
abbrev pub count_of : State → ℕ → ℕ
count_of state zero = 0
count_of state (suc place) = slice_index state.counts place

-- the value that a variable has; 0 where nothing is kept for it
abbrev pub value_of : State → List ℕ → ℤ
value_of state variable = value_in state.values variable

-- the thread that holds a lock by an acquire, where one does
abbrev pub holder_of : State → List ℕ → Option ℕ
holder_of state lock = value_at (slice_cmp nat_cmp) state.holders lock

-- whether a thread has ended: it is started, it exits, and it has done its whole segment
abbrev pub has_ended : WindowForm → State → ℕ → Bool
has_ended window state thread = is_among state.started thread && (is_among window.exited thread && size_of window thread == count_of state thread)

-- an id must be its thread's next one, and the thread started
abbrev pub turn_of : State → EventId → Result (Unit {0}) Rule
turn_of state id = if count_of state id.thread == id.index then (if is_among state.started id.thread then Ok tt else Err NotStarted) else Err NotNext

-- whether some thread holds a lock so that it cannot be taken in this way: alone, it cannot be taken
-- from a holder or from a reader, and as a reader, not from a holder
abbrev pub is_held_against : State → LockMode → List ℕ → Bool
is_held_against state Exclusive lock = is_some (holder_of state lock) || has_reader state.readers lock
is_held_against state Shared lock = is_some (holder_of state lock)

-- who takes a lock must find that nobody holds it against that; it can be given back at any time
abbrev pub allowed_use : State → Option LockUse → Result (Unit {0}) Rule
allowed_use state (Some (Take mode lock)) = if is_held_against state mode lock then Err LockHeld else Ok tt
allowed_use state _ = Ok tt

-- a read must find its value, a join its thread at the end, and who takes a lock the lock free for it; all other events are allowed
abbrev pub allowed_in : WindowForm → State → Event → Result (Unit {0}) Rule
allowed_in window state (Read variable value) = if int_eq (value_of state variable) value then Ok tt else Err WrongValue
allowed_in window state (Join thread) = if has_ended window state thread then Ok tt else Err NotExited
allowed_in window state event = allowed_use state (lock_use_of event)

-- the values of the variables after an event: a write sets one
abbrev pub values_after : Event → List (List ℕ × ℤ) → List (List ℕ × ℤ)
values_after (Write variable value) values = with_entry (slice_cmp nat_cmp) values variable value
values_after _ values = values

-- the holders after a thread's use of a lock: who takes it alone holds it, and who gives it back frees it
abbrev pub holders_after : ℕ → Option LockUse → List (List ℕ × ℕ) → List (List ℕ × ℕ)
holders_after thread (Some (Take Exclusive lock)) holders = with_entry (slice_cmp nat_cmp) holders lock thread
holders_after thread (Some (GiveBack Exclusive lock)) holders = without_entry (slice_cmp nat_cmp) holders lock
holders_after thread _ holders = holders

-- the readers after a thread's use of a lock: who takes it as a reader is one, and who gives it back so is none
abbrev pub readers_after : ℕ → Option LockUse → List (List ℕ × ℕ) → List (List ℕ × ℕ)
readers_after thread (Some (Take Shared lock)) readers = with_reader readers (lock, thread)
readers_after thread (Some (GiveBack Shared lock)) readers = without_reader readers (lock, thread)
readers_after thread _ readers = readers

-- the started threads after an event: a start adds one
abbrev pub started_after : Event → List ℕ → List ℕ
started_after (Start thread) started = started ++ thread ∷ []
started_after _ started = started

-- the counts with one event more done by a thread
abbrev pub counts_after : ℕ → List ℕ → List ℕ
counts_after zero counts = counts
counts_after (suc place) counts = slice_set counts place (slice_index counts place + 1)

-- the state with what an event of a thread changes: a variable, a lock, or the started threads
abbrev pub effect : ℕ → Event → State → State
effect thread event state = record {
  counts = state.counts;
  values = values_after event state.values;
  holders = holders_after thread (lock_use_of event) state.holders;
  readers = readers_after thread (lock_use_of event) state.readers;
  started = started_after event state.started;
}

-- the state with one event more done by a thread
abbrev pub counted : ℕ → State → State
counted thread state = record state { counts = counts_after thread state.counts }

-- the state after an event of a thread
abbrev pub after : ℕ → Event → State → State
after thread event state = counted thread (effect thread event state)

-- the first rule that an event breaks, in the order of the rules
abbrev pub rules_of : WindowForm → State → EventId → Event → Result (Unit {0}) Rule
rules_of window state id event = and_then (turn_of state id) (λ turn. allowed_in window state event)

-- what the event that an id names does, where there is one and it breaks no rule
abbrev pub next_with : WindowForm → State → EventId → Option Event → Result State Rule
next_with window state id (Some event) = and_then (rules_of window state id event) (λ kept. Ok (after id.thread event state))
next_with window state id None = Err NotNext

-- the state after the event that an id names, or the first rule that the event breaks
abbrev pub next : WindowForm → State → EventId → Result State Rule
next window state id = next_with window state id (event_at window id)

-- the state in which a window begins: nothing done, and all else as the window says
abbrev pub start_state : WindowForm → State
start_state window = record {
  counts = replicate (length window.segments) 0;
  values = with_entries (slice_cmp nat_cmp) [] window.start_values;
  holders = with_entries (slice_cmp nat_cmp) [] window.holders;
  readers = with_readers [] window.readers;
  started = window.started;
}
