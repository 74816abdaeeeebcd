-- What a feasible schedule says of one thread.
use Rattle.std.specs.Prelude.{ℕ, zero, suc, ◌≡◌, ◌==◌, ◌≤◌, List, [], ◌∷◌, filter}
use Rattle.gp_window.specs.declared.schedule.EventId.{EventId}
use Rattle.gp_window.specs.WindowForm.{WindowForm}
use Rattle.gp_replay.specs.declared.state.State.{State}
use Rattle.gp_window.specs.Events.{size_of}
use Rattle.gp_replay.specs.Step.{count_of, start_state}
use Rattle.gp_replay.specs.Feasible.{Runs}

-- the events of a schedule that are those of one thread, in order
abbrev pub part_of : ℕ → List EventId → List EventId
part_of thread ids = filter (λ id. id.thread == thread) ids

-- so many events of a thread, one after another, from this index on
abbrev pub events_from : ℕ → ℕ → ℕ → List EventId
events_from thread index zero = []
events_from thread index (suc more) = record { thread = thread; index = index } ∷ events_from thread (suc index) more

-- where a schedule is feasible, each thread's part of it is a prefix of the thread's segment, as long as the last state counts
abbrev pub PartsArePrefixes : Type 0
PartsArePrefixes = (window : WindowForm) (ids : List EventId) (last : State) → Runs window (start_state window) ids last
    → (thread : ℕ) → (part_of thread ids ≡ events_from thread 0 (count_of last thread)) × (count_of last thread ≤ size_of window thread)
