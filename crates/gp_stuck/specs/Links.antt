-- How the events of a window wait for locks while their threads hold others.
use Rattle.std.specs.Prelude.{ℕ, ◌≡◌, ◌&&◌, ◌==◌, Bool, true, List, Some, Contains}
use Rattle.std.specs.Str.{bytes_eq}
use Rattle.gp_trace.specs.declared.lock_use.LockMode.{LockMode}
use Rattle.gp_trace.specs.declared.lock_use.LockUse.TheVariants.{Take}
use Rattle.gp_trace.specs.LockUse.{mode_held}
use Rattle.gp_window.specs.declared.schedule.EventId.{EventId}
use Rattle.gp_window.specs.Modes.{mode_before}
use Rattle.gp_window.specs.WindowForm.{WindowForm}
use Rattle.gp_replay.specs.LockUses.{use_at}
use Rattle.gp_constraint.specs.Sections.{same_mode}
use Rattle.gp_stuck.specs.declared.holding.Holding.{Holding}
use Rattle.gp_stuck.specs.declared.link.Link.{Link}
use Rattle.gp_stuck.specs.Cycle.{may_be_next}

-- these are the locks that the thread of the event holds just before it
abbrev pub IsHolding : WindowForm → Holding → Type 0
IsHolding window holding = (lock : List ℕ) → mode_held holding.held lock ≡ mode_before window holding.id lock

-- the thread waits so for this lock, while it holds another one so
abbrev pub link_of : ℕ → List ℕ → LockMode → List ℕ × LockMode → Link
link_of thread lock wanted held = record { thread = thread; held = held.0; mode = held.1; lock = lock; wanted = wanted }

-- the event waits so: it can be its thread's next one, and takes the lock while its thread holds the other one
pub record IsLink (window : WindowForm) (link : Link) (id : EventId) : Type 0 where
  pub thread : link.thread ≡ id.thread
  pub may : may_be_next window id ≡ true
  pub holds : mode_before window id link.held ≡ Some link.mode
  pub takes : use_at window id ≡ Some (Take link.wanted link.lock)

-- each way in which one of these events waits is one of the links
abbrev pub AreLinked : WindowForm → List EventId → List Link → Type 0
AreLinked window ids links = (link : Link) (id : EventId) → Contains ids id → IsLink window link id → Contains links link

-- whether two links are the same
abbrev pub is_same_link : Link → Link → Bool
is_same_link one other =
    (one.thread == other.thread)
    && (bytes_eq one.held other.held
    && (same_mode one.mode other.mode
    && (bytes_eq one.lock other.lock
    && same_mode one.wanted other.wanted)))
