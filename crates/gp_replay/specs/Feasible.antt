-- Feasible: the step is defined along the whole schedule.
use Rattle.std.specs.Prelude.{ℕ, ◌≡◌, ◌≢◌, ◌↔◌, ◌+◌, List, [], ◌∷◌, ◌++◌, Some, Result, Ok, Err, take, slice_get}
use Rattle.std.specs.List.{AllPairs}
use Rattle.gp_window.specs.declared.schedule.EventId.{EventId}
use Rattle.gp_window.specs.WindowForm.{WindowForm}
use Rattle.gp_replay.specs.declared.state.State.{State}
use Rattle.gp_replay.specs.declared.rule.Rule.{Rule}
use Rattle.gp_replay.specs.declared.running.ReplayFault.{ReplayFault}
use Rattle.gp_replay.specs.declared.running.ReplayFault.TheVariants.{Stuck}
use Rattle.gp_base.specs.Results.{and_then}
use Rattle.gp_replay.specs.Step.{next, start_state}

-- the events happen one after another, from the first state to the last
abbrev pub Runs : WindowForm → State → List EventId → State → Type 0
Runs window state [] last = last ≡ state
Runs window state (id ∷ ids) last = (middle : State) × (next window state id ≡ Ok middle) × Runs window middle ids last

-- the schedule can happen in the window, from its beginning
abbrev pub IsFeasible : WindowForm → List EventId → Type 0
IsFeasible window ids = (last : State) × Runs window (start_state window) ids last

-- the events before this place happen, and the event at the place may not, by this rule
abbrev pub StuckAt : WindowForm → State → List EventId → ℕ → Rule → Type 0
StuckAt window state ids place rule =
    (middle : State) × (id : EventId) × Runs window state (take place ids) middle × (slice_get ids place ≡ Some id) × (next window middle id ≡ Err rule)

-- a step that fails, told with its place
abbrev pub told_at : ℕ → Result State Rule → Result State ReplayFault
told_at place (Ok state) = Ok state
told_at place (Err rule) = Err (Stuck place rule)

-- the last state, or the first place where the step is not defined, with its rule
abbrev pub end_from : WindowForm → ℕ → State → List EventId → Result State ReplayFault
end_from window place state [] = Ok state
end_from window place state (id ∷ ids) = and_then (told_at place (next window state id)) (λ middle. end_from window (place + 1) middle ids)

-- what replaying a schedule from the beginning of a window gives
abbrev pub end_of : WindowForm → List EventId → Result State ReplayFault
end_of window ids = end_from window 0 (start_state window) ids

-- replay ends well exactly where the events happen one after another, with the state that they lead
-- to; it is stuck exactly at the first event that may not happen, by the rule that forbids it
pub record ReplayMeansFeasible : Type 0 where
  pub ends : (window : WindowForm) (ids : List EventId) (last : State) → (end_of window ids ≡ Ok last) ↔ Runs window (start_state window) ids last
  pub stuck : (window : WindowForm) (ids : List EventId) (place : ℕ) (rule : Rule) → (end_of window ids ≡ Err (Stuck place rule)) ↔ StuckAt window (start_state window) ids place rule

-- where a schedule is feasible, so is each schedule that it begins with
abbrev pub PrefixesAreFeasible : Type 0
PrefixesAreFeasible = (window : WindowForm) (prefix back : List EventId) → IsFeasible window (prefix ++ back) → IsFeasible window prefix

-- no event happens twice in a feasible schedule
abbrev pub EventsHappenOnce : Type 0
EventsHappenOnce = (window : WindowForm) (ids : List EventId) → IsFeasible window ids → AllPairs (λ earlier later. earlier ≢ later) ids
