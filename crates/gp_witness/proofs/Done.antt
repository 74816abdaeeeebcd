-- Which events are done after a schedule: those below the counts.
use Rattle.std.proofs.Common.{◌≡◌, ◌<◌, ap, ◌∙◌, subst, List, ◌∷◌, ◌++◌, true, arith}
use Rattle.std.specs.Prelude.{Ok}
use Rattle.gp_window.specs.declared.schedule.EventId.{EventId}
use Rattle.gp_window.specs.IdLaws.{contains_means}
use Rattle.gp_window.specs.WindowForm.{WindowForm}
use Rattle.gp_window.specs.Ids.{contains_event}
use Rattle.gp_replay.specs.declared.state.State.{State}
use Rattle.gp_replay.specs.CountedLaws.{counted_from_in, in_from_counted}
use Rattle.gp_replay.specs.Step.{count_of, next, start_state}
use Rattle.gp_replay.specs.Feasible.{IsFeasible, Runs}
use Rattle.gp_replay.specs.RunLaws.{runs_split}
use Rattle.gp_replay.specs.StepLaws.{stepped}
use Rattle.gp_constraint.specs.StandingLaws.{before_is, found}
use Rattle.gp_witness.specs.ScheduleTruth.{before_of}

-- an event is done exactly where its thread has counted it
pub to_count : (window : WindowForm) (last : State) (ids : List EventId) (e : EventId)
    → Runs window (start_state window) ids last → contains_event ids e ≡ true → e.index < count_of last e.thread
to_count window last ids e r is = counted_from_in window last ids e r ((contains_means ids e).0 is)

pub from_count : (window : WindowForm) (last : State) (ids : List EventId) (e : EventId)
    → Runs window (start_state window) ids last → e.index < count_of last e.thread → contains_event ids e ≡ true
from_count window last ids e r below = (contains_means ids e).1 (in_from_counted window last ids e r below)

-- an executed event was a step, from the state after what is before it
pub record Happened (window : WindowForm) (ids : List EventId) (e : EventId) : Type 0 where
  pub state : State
  pub middle : State
  pub last : State
  pub back : List EventId
  pub is : ids ≡ before_of ids e ++ e ∷ back
  pub runs : Runs window (start_state window) (before_of ids e) state
  pub step : next window state e ≡ Ok middle
  pub rest : Runs window middle back last

pub happened : (window : WindowForm) (ids : List EventId) (e : EventId) → IsFeasible window ids → contains_event ids e ≡ true → Happened window ids e
happened window ids e feasible is =
    let split = found ids e is in
    let parts = runs_split window (start_state window) feasible.0 (before_of ids e) (e ∷ split.0) (subst (λ all. Runs window (start_state window) all feasible.0) split.1 feasible.1) in
    record {
      state = parts.0;
      middle = parts.2.0;
      last = feasible.0;
      back = split.0;
      is = split.1;
      runs = parts.1;
      step = parts.2.1;
      rest = parts.2.2;
    }

-- an event of the same thread with a lesser index is done before
pub done_before : (window : WindowForm) (ids : List EventId) (e f : EventId) → Happened window ids f → e.thread ≡ f.thread → e.index < f.index → contains_event (before_of ids f) e ≡ true
done_before window ids e f h same below =
    let turn : count_of h.state f.thread ≡ f.index = (stepped window h.state h.middle f h.step).turn in
    let own : count_of h.state e.thread ≡ count_of h.state f.thread = ap (λ t. count_of h.state t) same in
    from_count window h.state (before_of ids f) e h.runs (omega (arith, turn, own, below))

-- no event is done twice
pub stands_at : (window : WindowForm) (ids front : List EventId) (e : EventId) (back : List EventId) → IsFeasible window ids → ids ≡ front ++ e ∷ back → before_of ids e ≡ front
stands_at window ids front e back feasible is =
    let parts = runs_split window (start_state window) feasible.0 front (e ∷ back) (subst (λ all. Runs window (start_state window) all feasible.0) is feasible.1) in
    let turn : count_of parts.0 e.thread ≡ e.index = (stepped window parts.0 parts.2.0 e parts.2.1).turn in
    ap (λ all. before_of all e) is ∙ before_is front back e (λ again. let below = to_count window parts.0 front e parts.1 again in absurd (omega (arith, turn, below)))
