-- Which threads hold a lock by a racquire.
use Rattle.std.specs.Prelude.{ℕ, ◌≡◌, ◌↔◌, ◌⊎◌, true, List, ◌∷◌, ◌++◌}
use Rattle.std.specs.List.{AllByRecursion}
use Rattle.gp_trace.specs.declared.lock_use.LockMode.TheVariants.{Shared}
use Rattle.gp_window.specs.WindowForm.{IsWindow, WindowForm}
use Rattle.gp_window.specs.declared.schedule.EventId.{EventId}
use Rattle.gp_replay.specs.declared.state.State.{State}
use Rattle.gp_replay.specs.Feasible.{IsFeasible, Runs}
use Rattle.gp_replay.specs.Holder.{Holds}
use Rattle.gp_replay.specs.LockUses.{GivesBack, Takes}
use Rattle.gp_replay.specs.Readers.{is_reader}
use Rattle.gp_replay.specs.Step.{start_state}

-- none of the events is one by which the thread gives the lock back that it holds as a reader
abbrev pub NoneGivesBack : WindowForm → List EventId → List ℕ → ℕ → Type 0
NoneGivesBack window ids lock thread = AllByRecursion (λ id. id.thread ≡ thread → ¬ GivesBack window Shared id lock) ids

-- one of the events is a racquire of the lock by the thread, and by none after it the thread gives the lock back
abbrev pub IsSharedLast : WindowForm → List EventId → List ℕ → ℕ → Type 0
IsSharedLast window ids lock thread =
    (prefix : List EventId) × (id : EventId) × (back : List EventId) × (ids ≡ prefix ++ id ∷ back) × (id.thread ≡ thread) × Takes window Shared id lock × NoneGivesBack window back lock thread

-- the thread racquired the lock, or held it so before, and has not yet given it back
abbrev pub Shares : WindowForm → State → List EventId → List ℕ → ℕ → Type 0
Shares window before ids lock thread = ((is_reader before.readers lock thread ≡ true) × NoneGivesBack window ids lock thread) ⊎ IsSharedLast window ids lock thread

-- the readers of a lock are the threads that racquired it, or held it so when the window began, and have not yet given it back
abbrev pub ReadersAcquired : Type 0
ReadersAcquired = (window : WindowForm) (ids : List EventId) (last : State) → Runs window (start_state window) ids last
    → (lock : List ℕ) (thread : ℕ) → (is_reader last.readers lock thread ≡ true) ↔ Shares window (start_state window) ids lock thread

-- after a feasible schedule of a window a lock that has a holder has no reader
abbrev pub HoldersStayAlone : Type 0
HoldersStayAlone = (window : WindowForm) (ids : List EventId) → IsWindow window → IsFeasible window ids
    → (lock : List ℕ) (one other : ℕ) → Holds window (start_state window) ids lock one → ¬ Shares window (start_state window) ids lock other
