-- Which thread holds a lock by an acquire.
use Rattle.std.specs.Prelude.{ℕ, ◌≡◌, ◌↔◌, ◌⊎◌, List, ◌∷◌, ◌++◌, Some}
use Rattle.std.specs.List.{AllByRecursion}
use Rattle.gp_trace.specs.declared.lock_use.LockMode.TheVariants.{Exclusive}
use Rattle.gp_window.specs.WindowForm.{WindowForm}
use Rattle.gp_window.specs.declared.schedule.EventId.{EventId}
use Rattle.gp_replay.specs.declared.state.State.{State}
use Rattle.gp_replay.specs.Feasible.{IsFeasible, Runs}
use Rattle.gp_replay.specs.LockUses.{GivesBack, Takes}
use Rattle.gp_replay.specs.Step.{holder_of, start_state}

-- none of the events releases the lock
abbrev pub NoneReleases : WindowForm → List EventId → List ℕ → Type 0
NoneReleases window ids lock = AllByRecursion (λ id. ¬ GivesBack window Exclusive id lock) ids

-- one of the events is an acquire of the lock by the thread, and none after it releases the lock
abbrev pub IsAcquiredLast : WindowForm → List EventId → List ℕ → ℕ → Type 0
IsAcquiredLast window ids lock thread =
    (prefix : List EventId) × (id : EventId) × (back : List EventId) × (ids ≡ prefix ++ id ∷ back) × (id.thread ≡ thread) × Takes window Exclusive id lock × NoneReleases window back lock

-- the thread acquired the lock, or held it before, and it is not yet released
abbrev pub Holds : WindowForm → State → List EventId → List ℕ → ℕ → Type 0
Holds window before ids lock thread = ((holder_of before lock ≡ Some thread) × NoneReleases window ids lock) ⊎ IsAcquiredLast window ids lock thread

-- the holder of a lock is the thread that acquired it, or held it when the window began, and has not yet released it
abbrev pub HoldersAcquired : Type 0
HoldersAcquired = (window : WindowForm) (ids : List EventId) (last : State) → Runs window (start_state window) ids last
    → (lock : List ℕ) (thread : ℕ) → (holder_of last lock ≡ Some thread) ↔ Holds window (start_state window) ids lock thread

-- after a feasible schedule a lock is held by one thread at the most
abbrev pub LocksHaveOneHolder : Type 0
LocksHaveOneHolder = (window : WindowForm) (ids : List EventId) → IsFeasible window ids → (lock : List ℕ) (one other : ℕ)
    → Holds window (start_state window) ids lock one → Holds window (start_state window) ids lock other → one ≡ other
