-- What answers to the query of a cycle say of schedules: each answer gives a schedule that ends stuck, and where there is none no
-- schedule does.
use Rattle.std.specs.Prelude.{ℕ, ℤ, ◌≡◌, Bool, true, All, List}
use Rattle.gp_clause.specs.declared.valuation.Valuation.{Valuation}
use Rattle.gp_clause.specs.Clause.{HoldsAll}
use Rattle.gp_clause.specs.Lit.{HoldsLit}
use Rattle.gp_clause.specs.Valuation.{IsValuation, Meets}
use Rattle.gp_window.specs.declared.schedule.EventId.{EventId}
use Rattle.gp_window.specs.WindowForm.{IsWindow, WindowForm}
use Rattle.gp_constraint.specs.Base.{base_of}
use Rattle.gp_constraint.specs.ByPlace.{IsByPlace}
use Rattle.gp_stuck.specs.Cycle.{is_cycle}
use Rattle.gp_stuck.specs.Stuck.{EndsStuck, IsStuck}
use Rattle.gp_stuck.specs.StuckQuery.{stuck_query_of}

-- the executed events of an answer to the query of a cycle end stuck by their places; and where no valuation of the window
-- makes the query true, the cycle is not stuck, so that no schedule ends so
pub record StuckCyclesAreAnswered : Type 0 where
  pub ends : (window : WindowForm) (ids : List EventId) (valuation : Valuation) (schedule : List EventId) → IsWindow window → is_cycle window ids ≡ true
      → Meets (base_of window) (stuck_query_of window ids) valuation → IsByPlace window valuation schedule → EndsStuck window ids schedule
  pub impossible : (window : WindowForm) (ids : List EventId) → IsWindow window → is_cycle window ids ≡ true
      → ((truth : ℕ → Bool) (place : ℕ → ℤ) → IsValuation (base_of window).points (base_of window).edges (base_of window).kinds truth place
      → HoldsAll truth (base_of window).clauses → All (HoldsLit truth) (stuck_query_of window ids).assumed → ⊥)
      → IsStuck window ids → ⊥
  pub none_ends : (window : WindowForm) (ids schedule : List EventId) → IsWindow window → is_cycle window ids ≡ true → EndsStuck window ids schedule → IsStuck window ids
