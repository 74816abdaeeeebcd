-- States that tell the same.
use Rattle.std.specs.Prelude.{ℕ, ◌≡◌, List, Ok}
use Rattle.gp_window.specs.declared.schedule.EventId.{EventId}
use Rattle.gp_window.specs.Starts.{is_among}
use Rattle.gp_window.specs.WindowForm.{WindowForm}
use Rattle.gp_replay.specs.Feasible.{Runs}
use Rattle.gp_replay.specs.Readers.{is_reader}
use Rattle.gp_replay.specs.Step.{holder_of, next, value_of}
use Rattle.gp_replay.specs.declared.state.State.{State}

-- two states count the same, and tell the same of each variable, of each lock's holder and readers, and of which threads are
-- started
pub record Alike (one other : State) : Type 0 where
  pub counts : one.counts ≡ other.counts
  pub values : (variable : List ℕ) → value_of one variable ≡ value_of other variable
  pub holders : (lock : List ℕ) → holder_of one lock ≡ holder_of other lock
  pub readers : (lock : List ℕ) (thread : ℕ) → is_reader one.readers lock thread ≡ is_reader other.readers lock thread
  pub started : (thread : ℕ) → is_among one.started thread ≡ is_among other.started thread

-- an event that happens in one of two states that tell the same happens in the other too, and so do events one after another;
-- the states after them tell the same
pub record AlikeStatesStepAlike : Type 0 where
  pub step : (window : WindowForm) (one other middle : State) (id : EventId) → Alike one other → next window one id ≡ Ok middle
      → (after : State) × (next window other id ≡ Ok after) × Alike middle after
  pub runs : (window : WindowForm) (one other last : State) (ids : List EventId) → Alike one other → Runs window one ids last
      → (after : State) × Runs window other ids after × Alike last after
