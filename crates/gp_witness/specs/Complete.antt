-- A feasible schedule makes the constraints of its window true, and where it matches an instance, what the query assumes.
use Rattle.std.specs.Prelude.{ℕ, ℤ, ◌≡◌, ◌++◌, Bool, true, All, List, []}
use Rattle.gp_clause.specs.Clause.{HoldsAll}
use Rattle.gp_clause.specs.Lit.{HoldsLit}
use Rattle.gp_clause.specs.Valuation.{IsValuation}
use Rattle.gp_instance.specs.Matches.{matches_events}
use Rattle.gp_property.specs.PropertyForm.{PropertyForm}
use Rattle.gp_window.specs.declared.schedule.EventId.{EventId}
use Rattle.gp_window.specs.WindowForm.{IsWindow, WindowForm}
use Rattle.gp_replay.specs.Feasible.{IsFeasible}
use Rattle.gp_constraint.specs.Base.{base_of}
use Rattle.gp_constraint.specs.Query.{query_of}
use Rattle.gp_witness.specs.Possible.{IsPossible}
pub use Rattle.gp_constraint.specs.ScheduleModels.{SaysSchedule, ScheduleModel}

-- a feasible schedule is such a valuation of its window's problem; where it matches an instance it is one with the query;
-- so where there is none, the instance is not possible
pub record SchedulesAreComplete : Type 0 where
  pub base : (window : WindowForm) (schedule : List EventId) → IsWindow window → IsFeasible window schedule
      → ScheduleModel window schedule (base_of window) (base_of window).kinds []
  pub instance : (window : WindowForm) (property : PropertyForm) (ids schedule : List EventId) → IsWindow window → IsFeasible window schedule
      → matches_events property ids schedule ≡ true
      → ScheduleModel window schedule (base_of window) ((base_of window).kinds ++ (query_of window property ids).locals) (query_of window property ids).assumed
  pub impossible : (window : WindowForm) (property : PropertyForm) (ids : List EventId) → IsWindow window
      → ((truth : ℕ → Bool) (place : ℕ → ℤ)
      → IsValuation (base_of window).points (base_of window).edges ((base_of window).kinds ++ (query_of window property ids).locals) truth place
      → HoldsAll truth (base_of window).clauses → All (HoldsLit truth) (query_of window property ids).assumed → ⊥)
      → IsPossible window property ids → ⊥
