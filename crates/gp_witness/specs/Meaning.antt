-- What the constraints of a window say of its events: each family by its meaning.
use Rattle.std.specs.Prelude.{ℕ, ℤ, suc, ◌≡◌, ◌≢◌, ◌<◌, ◌≤◌, ◌<ℤ◌, ◌⊎◌, Bool, true, false, List, Some}
use Rattle.gp_trace.specs.declared.lock_use.LockMode.{LockMode}
use Rattle.gp_window.specs.declared.schedule.EventId.{EventId}
use Rattle.gp_window.specs.Formed.{mode_at_start}
use Rattle.gp_window.specs.Starts.{is_among}
use Rattle.gp_window.specs.WindowForm.{start_value, WindowForm}
use Rattle.gp_replay.specs.LockUses.{GivesBack, Takes}
use Rattle.gp_replay.specs.Order.{Joins, Starts}
use Rattle.gp_replay.specs.Value.{Reads, Writes}
use Rattle.gp_constraint.specs.PointLaws.{IsEventOf}
use Rattle.gp_constraint.specs.Sections.{exclude}

-- which events are executed, and the place of each; which write each read sees, and whether it sees the start value; of
-- two sections of a lock, whether that which the first event begins comes first; and, of which no clause of a window speaks,
-- whether a write is the last, and whether a wake takes the signal of an event
pub record Truth : Type 0 where
  pub executed : EventId → Bool
  pub place : EventId → ℤ
  pub reads : EventId → EventId → Bool
  pub reads_start : EventId → Bool
  pub first : EventId → EventId → Bool
  pub last : EventId → Bool
  pub signals : EventId → EventId → Bool

-- the event is executed, before the other
abbrev pub Precedes : Truth → EventId → EventId → Type 0
Precedes t e f = (t.executed e ≡ true) × (t.place e <ℤ t.place f)

-- the places of a thread's events rise
abbrev pub PlacesRise : WindowForm → Truth → Type 0
PlacesRise window t = (e f : EventId) → IsEventOf window e → IsEventOf window f → e.thread ≡ f.thread → e.index < f.index → t.place e <ℤ t.place f

-- where an event is executed, so are all those before it in its thread
abbrev pub ThreadsRun : WindowForm → Truth → Type 0
ThreadsRun window t = (e f : EventId) → IsEventOf window e → IsEventOf window f → e.thread ≡ f.thread → e.index < f.index
    → t.executed f ≡ true → t.executed e ≡ true

-- the thread is started when the window begins, or by an event that precedes
abbrev pub IsStartedFor : WindowForm → Truth → ℕ → EventId → Type 0
IsStartedFor window t thread f = (is_among window.started thread ≡ true) ⊎ ((s : EventId) × Starts window s thread × Precedes t s f)

-- the thread of an executed event is started for it
abbrev pub StartsHold : WindowForm → Truth → Type 0
StartsHold window t = (f : EventId) → IsEventOf window f → t.executed f ≡ true → IsStartedFor window t f.thread f

-- a thread that an executed event joins exits, each of its events precedes, and it is started
pub record JoinHolds (window : WindowForm) (t : Truth) (thread : ℕ) (j : EventId) : Type 0 where
  pub exits : is_among window.exited thread ≡ true
  pub whole : (e : EventId) → IsEventOf window e → e.thread ≡ thread → Precedes t e j
  pub started : IsStartedFor window t thread j

abbrev pub JoinsHold : WindowForm → Truth → Type 0
JoinsHold window t = (j : EventId) (thread : ℕ) → Joins window j thread → t.executed j ≡ true → JoinHolds window t thread j

-- a write of the value to the variable that is not after the read in its own thread
abbrev pub IsChoice : WindowForm → EventId → List ℕ → ℤ → EventId → Type 0
IsChoice window r variable value w = Writes window w variable value × (w.thread ≡ r.thread → w.index < r.index)

-- an executed read sees one of its choices, or the start value
abbrev pub ReadsHold : WindowForm → Truth → Type 0
ReadsHold window t = (r : EventId) (variable : List ℕ) (value : ℤ) → Reads window r variable value → t.executed r ≡ true
    → ((w : EventId) × IsChoice window r variable value w × (t.reads r w ≡ true))
    ⊎ ((start_value window variable ≡ value) × (t.reads_start r ≡ true))

-- each executed write of another value to the variable is such
abbrev pub EachRival : WindowForm → Truth → List ℕ → ℤ → (EventId → Type 0) → Type 0
EachRival window t variable value P =
    (other : EventId) (written : ℤ) → Writes window other variable written → written ≢ value → t.executed other ≡ true → P other

-- the write that a read sees precedes it, and each write of another value comes before that write, or after the read
abbrev pub ChoicesHold : WindowForm → Truth → Type 0
ChoicesHold window t = (r w : EventId) (variable : List ℕ) (value : ℤ) → Reads window r variable value → IsChoice window r variable value w
    → t.reads r w ≡ true
    → Precedes t w r × EachRival window t variable value (λ other. (t.place other <ℤ t.place w) ⊎ (t.place r <ℤ t.place other))

-- where a read sees the start value, each write of another value comes after it
abbrev pub StartChoicesHold : WindowForm → Truth → Type 0
StartChoicesHold window t = (r : EventId) (variable : List ℕ) (value : ℤ) → Reads window r variable value → start_value window variable ≡ value
    → t.reads_start r ≡ true → EachRival window t variable value (λ other. t.place r <ℤ t.place other)

-- the event is the thread's first from this index on that gives back the lock that is held in this way
pub record EndsHold (window : WindowForm) (mode : LockMode) (lock : List ℕ) (thread from : ℕ) (b : EventId) : Type 0 where
  pub own : b.thread ≡ thread
  pub inside : from ≤ b.index
  pub gives : GivesBack window mode b lock
  pub none : (k : ℕ) → from ≤ k → k < b.index → GivesBack window mode (record { thread = thread; index = k }) lock → ⊥

-- the hold of the lock that the thread has from this index on ends before the event
abbrev pub IsFreedFor : WindowForm → Truth → LockMode → List ℕ → ℕ → ℕ → EventId → Type 0
IsFreedFor window t mode lock thread from c = (b : EventId) × EndsHold window mode lock thread from b × Precedes t b c

-- of two executed events that take a lock, not both as readers, the first one's section ends before the other
abbrev pub SectionsHold : WindowForm → Truth → Type 0
SectionsHold window t = (lock : List ℕ) (mode other : LockMode) (a c : EventId) → Takes window mode a lock → Takes window other c lock
    → exclude mode other ≡ true → a.thread < c.thread → t.executed a ≡ true → t.executed c ≡ true
    → (t.first a c ≡ true → IsFreedFor window t mode lock a.thread (suc a.index) c)
    × (t.first a c ≡ false → IsFreedFor window t other lock c.thread (suc c.index) a)

-- a lock that is held at the start is given back before any executed event of another thread that takes it against that
abbrev pub StartHoldsHold : WindowForm → Truth → Type 0
StartHoldsHold window t = (lock : List ℕ) (mode other : LockMode) (thread : ℕ) (c : EventId) → mode_at_start window thread lock ≡ Some mode
    → Takes window other c lock → exclude mode other ≡ true → c.thread ≢ thread → t.executed c ≡ true
    → IsFreedFor window t mode lock thread 0 c

-- all families
pub record MeetsAll (window : WindowForm) (t : Truth) : Type 0 where
  pub rise : PlacesRise window t
  pub run : ThreadsRun window t
  pub starts : StartsHold window t
  pub joins : JoinsHold window t
  pub reads : ReadsHold window t
  pub choices : ChoicesHold window t
  pub start_choices : StartChoicesHold window t
  pub sections : SectionsHold window t
  pub start_holds : StartHoldsHold window t

-- different events have different places
abbrev pub PlacesDiffer : WindowForm → Truth → Type 0
PlacesDiffer window t = (e f : EventId) → IsEventOf window e → IsEventOf window f → t.place e ≡ t.place f → e ≡ f
