-- What an event does that other events see: the variable or the lock that it uses, and what it leaves for later ones.
use Rattle.std.specs.Prelude.{ℕ, Bool, ◌==◌, ◌&&◌, List, Option, Some, None, is_some, nat_eq, option_and_then}
use Rattle.std.specs.Option.{option_eq}
use Rattle.std.specs.Str.{bytes_eq}
use Rattle.gp_trace.specs.declared.event.Event.{Event}
use Rattle.gp_trace.specs.declared.event.Event.TheVariants.{Read, Write, Start}
use Rattle.gp_trace.specs.declared.lock_use.LockMode.{LockMode}
use Rattle.gp_trace.specs.declared.lock_use.LockMode.TheVariants.{Exclusive, Shared}
use Rattle.gp_trace.specs.declared.lock_use.LockUse.{LockUse}
use Rattle.gp_trace.specs.declared.lock_use.LockUse.TheVariants.{Take, GiveBack}
use Rattle.gp_window.specs.Events.{event_at}
use Rattle.gp_window.specs.WindowForm.{WindowForm}
use Rattle.gp_window.specs.declared.schedule.EventId.{EventId}
use Rattle.gp_replay.specs.LockUses.{use_at}

-- the variable that an event reads or writes, where it does
abbrev pub variable_of : Event → Option (List ℕ)
variable_of (Read variable value) = Some variable
variable_of (Write variable value) = Some variable
variable_of _ = None

-- the lock that is used
abbrev pub lock_of : LockUse → List ℕ
lock_of (Take mode lock) = lock
lock_of (GiveBack mode lock) = lock

-- the variable that an event writes, where it writes one
abbrev pub variable_written : Event → Option (List ℕ)
variable_written (Write variable value) = Some variable
variable_written _ = None

-- the thread that an event starts, where it starts one
abbrev pub thread_started : Event → Option ℕ
thread_started (Start thread) = Some thread
thread_started _ = None

-- the lock that is given back, where that lets in who wants it in this way: alone, it has to be given back by whoever
-- holds it, and as a reader, by who holds it alone
abbrev pub lock_freed : LockMode → Option LockUse → Option (List ℕ)
lock_freed Exclusive (Some (GiveBack held lock)) = Some lock
lock_freed Shared (Some (GiveBack Exclusive lock)) = Some lock
lock_freed wanted _ = None

-- whether the event that an id names writes the variable
abbrev pub writes : WindowForm → List ℕ → EventId → Bool
writes window variable id = option_eq bytes_eq (option_and_then variable_written (event_at window id)) (Some variable)

-- whether it gives the lock back, and that lets in who wants it in this way
abbrev pub frees : WindowForm → LockMode → List ℕ → EventId → Bool
frees window wanted lock id = option_eq bytes_eq (lock_freed wanted (use_at window id)) (Some lock)

-- whether it is an event of the thread
abbrev pub is_done_by : WindowForm → ℕ → EventId → Bool
is_done_by window thread id = is_some (event_at window id) && id.thread == thread

-- whether it starts the thread
abbrev pub starts : WindowForm → ℕ → EventId → Bool
starts window thread id = option_eq nat_eq (option_and_then thread_started (event_at window id)) (Some thread)
