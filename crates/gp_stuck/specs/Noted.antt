-- What is noted of a window before the search for cycles: which events may begin one, and who holds which lock.
use Rattle.std.specs.Prelude.{ℕ, ◌≡◌, ◌&&◌, Bool, List, [], ◌∷◌, ◌++◌, ◌==◌, Option, Some, None, Contains, filter, if◌then◌else◌, map, nat_lt}
use Rattle.std.specs.Cmp.Lexicographic.{slice_cmp}
use Rattle.std.specs.List.{flat_map, list_all}
use Rattle.std.specs.Ordering.{nat_cmp}
use Rattle.gp_base.specs.Table.{with_entry}
use Rattle.gp_trace.specs.declared.lock_use.LockMode.{LockMode}
use Rattle.gp_trace.specs.LockUse.{HeldLocks}
use Rattle.gp_window.specs.declared.schedule.EventId.{EventId}
use Rattle.gp_window.specs.Holders.{Holding, Holdings}
use Rattle.gp_window.specs.Modes.{mode_before}
use Rattle.gp_window.specs.WindowForm.{WindowForm}
use Rattle.gp_constraint.specs.Sections.{exclude}
use Rattle.gp_constraint.specs.Tables.{entry_at}
use Rattle.gp_stuck.specs.declared.holder.Holder.{Holder}
use Rattle.gp_stuck.specs.Cycle.{are_apart, may_be_next}
use Rattle.gp_stuck.specs.Search.{takes_lock}

-- an event, with how its thread holds a lock just before it, where it does
abbrev pub holder_with : EventId → Option LockMode → List Holder
holder_with id (Some mode) = record { id = id; mode = mode } ∷ []
holder_with id None = []

-- those of these events whose threads hold the lock just before them
abbrev pub holders_of : WindowForm → List ℕ → List EventId → List Holder
holders_of window lock ids = flat_map (λ id. holder_with id (mode_before window id lock)) ids

-- the thread of an event holds no lock just before it
abbrev pub HoldsNothing : WindowForm → EventId → Type 0
HoldsNothing window id = (lock : List ℕ) → mode_before window id lock ≡ None

-- of these events that take locks: for each lock those whose threads hold it; and the search begins with some of them, which
-- are all that may be the next of their threads but some whose threads hold nothing
pub record AreNoted (window : WindowForm) (takers starts : List EventId) (holders : List (List ℕ × List Holder)) : Type 0 where
  pub held : (lock : List ℕ) → entry_at holders lock ≡ holders_of window lock takers
  pub among : (id : EventId) → Contains starts id → Contains takers id
  pub begun : (found : EventId → List (List EventId)) → ((id : EventId) → HoldsNothing window id → found id ≡ [])
      → flat_map found starts ≡ flat_map found (filter (may_be_next window) takers)

-- with the notes of some events, the second are those of these events too
abbrev pub NotesMore : WindowForm → List EventId → List EventId → List (List ℕ × List Holder) → List EventId → List (List ℕ × List Holder) → Type 0
NotesMore window ids starts holders more_starts more_holders = (before : List EventId)
    → AreNoted window (filter (takes_lock window) before) starts holders → AreNoted window (filter (takes_lock window) (before ++ ids)) more_starts more_holders

-- whether an event whose thread holds a lock may follow one that takes this lock so
abbrev pub may_stand : WindowForm → LockMode → EventId → List EventId → Holder → Bool
may_stand window mode first passed holder =
    nat_lt first.thread holder.id.thread
    && (list_all (λ other. are_apart other holder.id) passed && (may_be_next window holder.id && exclude holder.mode mode))

-- those that may follow
abbrev pub standing : WindowForm → LockMode → EventId → List EventId → List Holder → List EventId
standing window mode first passed holders = map (λ holder. holder.id) (filter (may_stand window mode first passed) holders)

-- the locks that a thread holds, with one more lock that is held when the window begins, where this thread holds it
abbrev pub with_own : ℕ → HeldLocks → Holding → HeldLocks
with_own thread held holding = if holding.0.1 == thread then with_entry (slice_cmp nat_cmp) held holding.0.0 holding.1 else held

-- and with all of these
abbrev pub with_all_own : ℕ → HeldLocks → Holdings → HeldLocks
with_all_own thread held [] = held
with_all_own thread held (holding ∷ holdings) = with_all_own thread (with_own thread held holding) holdings
