-- What is true of every window.
use Rattle.std.specs.Prelude.{ℕ, ◌≡◌, ◌≢◌, ◌<◌, ◌≤◌, ◌^◌, true, false, Bool, List, Option, Some, None, Contains, if◌then◌else◌, length}
use Rattle.std.specs.BTreeMap.{is_at}
use Rattle.std.specs.Cmp.Lexicographic.{slice_cmp}
use Rattle.std.specs.List.{list_any}
use Rattle.std.specs.List.Sorted.{IsStrictlySortedBy}
use Rattle.std.specs.Map.{keys_of}
use Rattle.std.specs.Ordering.{nat_cmp}
use Rattle.gp_trace.specs.declared.event.Event.{Event}
use Rattle.gp_trace.specs.declared.event.Event.TheVariants.{Start, Join}
use Rattle.gp_trace.specs.declared.lock_use.LockMode.{LockMode}
use Rattle.gp_trace.specs.declared.lock_use.LockMode.TheVariants.{Exclusive, Shared}
use Rattle.gp_trace.specs.LockUse.{HeldLocks, LocksAreUsedWell, mode_held}
use Rattle.gp_trace.specs.Trace.{IsEvent}
use Rattle.gp_window.specs.declared.schedule.EventId.{EventId}
use Rattle.gp_window.specs.Events.{event_at, has_thread, segment_of, size_of}
use Rattle.gp_window.specs.Holders.{holder_cmp}
use Rattle.gp_window.specs.Starts.{is_among}
use Rattle.gp_window.specs.WindowForm.{IsWindow, WindowForm}

-- the entries stand in the order of their names, each name once
abbrev pub HasRisingNames : {V : Type 0} → List (List ℕ × V) → Type 0
HasRisingNames entries = IsStrictlySortedBy (slice_cmp nat_cmp) (keys_of entries)

-- whether a thread stands at a lock among these
abbrev pub stands_at : List (List ℕ × ℕ) → List ℕ → ℕ → Bool
stands_at pairs lock thread = list_any (is_at (holder_cmp (lock, thread))) pairs

-- how a thread holds a lock when the window begins, where it does
abbrev pub mode_at_start : WindowForm → ℕ → List ℕ → Option LockMode
mode_at_start w thread lock =
    if stands_at w.holders lock thread then Some Exclusive
    else (if stands_at w.readers lock thread then Some Shared else None)

-- the thread holds some locks when the window begins, each as the window says, and with these its segment takes only
-- locks that it holds in neither way, and gives back only locks that it holds in that way
pub record UsesLocksWell (w : WindowForm) (thread : ℕ) : Type 0 where
  pub held : HeldLocks
  pub told : (lock : List ℕ) → mode_held held lock ≡ mode_at_start w thread lock
  pub well : LocksAreUsedWell held (segment_of w thread)

-- what is true of every window
pub record IsFormed (w : WindowForm) : Type 0 where
  -- the names of the variables with a value at the start, and those of the locks with a holder, rise; so a lock has one
  -- holder at most
  pub values : HasRisingNames w.start_values
  pub holders : HasRisingNames w.holders
  -- the readers rise by the names of the locks, and at one lock by thread
  pub readers : IsStrictlySortedBy holder_cmp w.readers
  -- a lock that has a holder has no reader
  pub alone : (lock : List ℕ) (one other : ℕ) → Contains w.holders (lock, one) → Contains w.readers (lock, other) → ⊥
  -- each thread uses locks well
  pub locks : (thread : ℕ) → UsesLocksWell w thread
  -- a start names a thread of the window, not its own, and none that is started when the window begins
  pub starts : (id : EventId) (thread : ℕ) → event_at w id ≡ Some (Start thread)
      → (has_thread w thread ≡ true) × (thread ≢ id.thread) × (is_among w.started thread ≡ false)
  -- no thread is started twice
  pub once : (one other : EventId) (thread : ℕ) → event_at w one ≡ Some (Start thread) → event_at w other ≡ Some (Start thread) → one ≡ other
  -- a join names a thread of the window, not its own
  pub joins : (id : EventId) (thread : ℕ) → event_at w id ≡ Some (Join thread) → (has_thread w thread ≡ true) × (thread ≢ id.thread)
  -- threads that are started or exited, that hold a lock or read one, are threads of the window
  pub started : (thread : ℕ) → is_among w.started thread ≡ true → has_thread w thread ≡ true
  pub exited : (thread : ℕ) → is_among w.exited thread ≡ true → has_thread w thread ≡ true
  pub held : (lock : List ℕ) (thread : ℕ) → Contains w.holders (lock, thread) → has_thread w thread ≡ true
  pub read : (lock : List ℕ) (thread : ℕ) → Contains w.readers (lock, thread) → has_thread w thread ≡ true
  -- names are names, numbers have their width, and an operation has at most four objects
  pub events : (id : EventId) (event : Event) → event_at w id ≡ Some event → IsEvent event
  -- there are 1 to 64 threads, and a segment has fewer than 2 ^ 32 events
  pub threads : (1 ≤ length w.segments) × (length w.segments ≤ 64)
  pub few : (thread : ℕ) → size_of w thread < 2 ^ 32

-- each window is formed so
abbrev pub WindowsAreFormed : Type 0
WindowsAreFormed = (window : WindowForm) → IsWindow window → IsFormed window
