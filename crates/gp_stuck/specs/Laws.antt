-- What is true of cycles and of the answers to their queries.
use Rattle.std.specs.Prelude.{◌≡◌, ◌↔◌, true, List, [], ◌++◌, Contains}
use Rattle.gp_clause.specs.Problem.{IsValidQuery}
use Rattle.gp_clause.specs.Valuation.{Meets}
use Rattle.gp_clause.specs.declared.valuation.Valuation.{Valuation}
use Rattle.gp_base.specs.ListLaws.{Pairwise}
use Rattle.gp_window.specs.declared.schedule.EventId.{EventId}
use Rattle.gp_window.specs.WindowForm.{IsWindow, WindowForm}
use Rattle.gp_instance.specs.Listed.{IsBefore}
use Rattle.gp_replay.specs.declared.state.State.{State}
use Rattle.gp_replay.specs.Feasible.{IsFeasible, Runs}
use Rattle.gp_replay.specs.Step.{start_state}
use Rattle.gp_constraint.specs.Base.{base_of}
use Rattle.gp_constraint.specs.ByPlace.{IsByPlace}
use Rattle.gp_constraint.specs.ScheduleModels.{ScheduleModel}
use Rattle.gp_stuck.specs.Cycle.{is_cycle}
use Rattle.gp_stuck.specs.Cycles.{cycles_of}
use Rattle.gp_stuck.specs.Stuck.{AreNext, BlockAround, EndsStuck, IsStuck, WaitForEver}
use Rattle.gp_stuck.specs.StuckQuery.{stuck_query_of}

-- the list has exactly the cycles, each before those that follow it
pub record CyclesAreListed : Type 0 where
  pub all : (window : WindowForm) (ids : List EventId) → Contains (cycles_of window) ids ↔ (is_cycle window ids ≡ true)
  pub ordered : (window : WindowForm) → Pairwise IsBefore (cycles_of window)

-- where each event of a cycle is the next one of its thread, the events block one another; so a cycle is stuck exactly where
-- they do so after some feasible schedule
pub record CyclesBlock : Type 0 where
  pub block : (window : WindowForm) (ids schedule : List EventId) (last : State) → IsWindow window → is_cycle window ids ≡ true
      → Runs window (start_state window) schedule last → AreNext last ids → BlockAround window last ids
  pub stuck : (window : WindowForm) (ids : List EventId) → IsWindow window → is_cycle window ids ≡ true
      → IsStuck window ids ↔ ((schedule : List EventId) × EndsStuck window ids schedule)

-- once the events of a cycle block one another they do so for ever: each feasible schedule that goes on from there ends stuck
-- too, and none has one of them, or a later event of its thread
pub record StuckCyclesWaitForEver : Type 0 where
  pub stay : (window : WindowForm) (ids schedule more : List EventId) → IsWindow window → is_cycle window ids ≡ true
      → EndsStuck window ids schedule → IsFeasible window (schedule ++ more) → EndsStuck window ids (schedule ++ more)
  pub wait : (window : WindowForm) (ids schedule : List EventId) → IsWindow window → is_cycle window ids ≡ true
      → EndsStuck window ids schedule → WaitForEver window ids schedule

-- the executed events of an answer to the query of a cycle end stuck by their places, where they are feasible
abbrev pub StuckAnswersAreSound : Type 0
StuckAnswersAreSound = (window : WindowForm) (ids : List EventId) (valuation : Valuation) (schedule : List EventId) → IsWindow window → is_cycle window ids ≡ true
    → Meets (base_of window) (stuck_query_of window ids) valuation → IsByPlace window valuation schedule
    → IsFeasible window schedule → EndsStuck window ids schedule

-- where a schedule ends just before the events of a cycle, a model of the window that says what the schedule does makes the
-- query of the cycle true
abbrev pub StuckSchedulesAreComplete : Type 0
StuckSchedulesAreComplete = (window : WindowForm) (ids : List EventId) → is_cycle window ids ≡ true → (stuck : IsStuck window ids)
    → ScheduleModel window stuck.0 (base_of window) (base_of window).kinds []
    → ScheduleModel window stuck.0 (base_of window) (base_of window).kinds (stuck_query_of window ids).assumed

-- the query of a cycle is valid
abbrev pub StuckQueriesAreValid : Type 0
StuckQueriesAreValid = (window : WindowForm) (ids : List EventId) → is_cycle window ids ≡ true → IsValidQuery (base_of window) (stuck_query_of window ids)
