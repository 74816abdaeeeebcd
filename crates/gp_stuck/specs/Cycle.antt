-- A cycle of waiting threads.
use Rattle.std.specs.Prelude.{Bool, true, false, not, ◌==◌, ◌&&◌, ◌||◌, nat_le, nat_lt, List, [], ◌∷◌, Option, Some, None, length}
use Rattle.std.specs.List.{list_all}
use Rattle.gp_trace.specs.declared.lock_use.LockMode.{LockMode}
use Rattle.gp_trace.specs.declared.lock_use.LockUse.{LockUse}
use Rattle.gp_trace.specs.declared.lock_use.LockUse.TheVariants.{Take}
use Rattle.gp_window.specs.declared.schedule.EventId.{EventId}
use Rattle.gp_window.specs.Starts.{is_among}
use Rattle.gp_window.specs.WindowForm.{WindowForm}
use Rattle.gp_replay.specs.LockUses.{use_at}
use Rattle.gp_instance.specs.Pairs.{all_pairs}
use Rattle.gp_constraint.specs.Sections.{exclude}
use Rattle.gp_window.specs.Modes.{mode_before}

-- whether a lock that another thread holds so, if at all, cannot be taken in this way
abbrev pub keeps_out : LockMode → Option LockMode → Bool
keeps_out mode (Some held) = exclude held mode
keeps_out mode None = false

-- whether the use takes a lock that the thread of this event, just before it, holds against that
abbrev pub waits_by : WindowForm → Option LockUse → EventId → Bool
waits_by window (Some (Take mode lock)) other = keeps_out mode (mode_before window other lock)
waits_by window _ other = false

-- whether the first event takes a lock that the thread of the second, just before the second, holds against that
abbrev pub waits_for : WindowForm → EventId → EventId → Bool
waits_for window one other = waits_by window (use_at window one) other

-- whether each event waits for the next, and the last for this first one
abbrev pub waits_around : WindowForm → EventId → List EventId → Bool
waits_around window first [] = true
waits_around window first (last ∷ []) = waits_for window last first
waits_around window first (one ∷ other ∷ rest) = waits_for window one other && waits_around window first (other ∷ rest)

-- whether an event can be its thread's next one: it is not the first of its segment, or the thread is started when the
-- window begins
abbrev pub may_be_next : WindowForm → EventId → Bool
may_be_next window id = nat_lt 0 id.index || is_among window.started id.thread

-- whether two events are of different threads
abbrev pub are_apart : EventId → EventId → Bool
are_apart one other = not (one.thread == other.thread)

-- whether a list is a cycle: two to four events of different threads, that of the least thread first, each waiting for
-- the next and the last for the first, each of which can be its thread's next one
abbrev pub is_cycle : WindowForm → List EventId → Bool
is_cycle window [] = false
is_cycle window (first ∷ rest) =
    (nat_le 1 (length rest) && nat_le (length rest) 3)
    && (list_all (λ other. nat_lt first.thread other.thread) rest
    && (all_pairs are_apart rest
    && (list_all (may_be_next window) (first ∷ rest)
    && waits_around window first (first ∷ rest))))
