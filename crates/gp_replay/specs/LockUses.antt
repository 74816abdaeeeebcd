-- How the events of a schedule use locks.
use Rattle.std.specs.Prelude.{◌≡◌, ℕ, List, Option, Some, None}
use Rattle.gp_trace.specs.LockUse.{lock_use_of}
use Rattle.gp_trace.specs.declared.event.Event.{Event}
use Rattle.gp_trace.specs.declared.lock_use.LockMode.{LockMode}
use Rattle.gp_trace.specs.declared.lock_use.LockUse.{LockUse}
use Rattle.gp_trace.specs.declared.lock_use.LockUse.TheVariants.{Take, GiveBack}
use Rattle.gp_window.specs.Events.{event_at}
use Rattle.gp_window.specs.WindowForm.{WindowForm}
use Rattle.gp_window.specs.declared.schedule.EventId.{EventId}

-- how an event uses a lock, where there is one and it uses one
abbrev pub use_of : Option Event → Option LockUse
use_of (Some event) = lock_use_of event
use_of None = None

-- how the event that an id names uses a lock
abbrev pub use_at : WindowForm → EventId → Option LockUse
use_at window id = use_of (event_at window id)

-- the event takes the lock in this way
abbrev pub Takes : WindowForm → LockMode → EventId → List ℕ → Type 0
Takes window mode id lock = use_at window id ≡ Some (Take mode lock)

-- the event gives back the lock that is held in this way
abbrev pub GivesBack : WindowForm → LockMode → EventId → List ℕ → Type 0
GivesBack window mode id lock = use_at window id ≡ Some (GiveBack mode lock)
