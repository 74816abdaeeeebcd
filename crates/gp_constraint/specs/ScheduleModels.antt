-- Models that say what a schedule does.
use Rattle.std.specs.Prelude.{ℕ, ℤ, pos, ◌≡◌, ◌≤ℤ◌, Bool, false, All, List, Some, length, slice_get}
use Rattle.gp_clause.specs.declared.kind.Kind.{Kind}
use Rattle.gp_clause.specs.declared.lit.Lit.{Lit}
use Rattle.gp_clause.specs.declared.problem.Problem.{Problem}
use Rattle.gp_clause.specs.Clause.{HoldsAll}
use Rattle.gp_clause.specs.Lit.{HoldsLit}
use Rattle.gp_clause.specs.Valuation.{IsValuation}
use Rattle.gp_window.specs.declared.schedule.EventId.{EventId}
use Rattle.gp_window.specs.WindowForm.{WindowForm}
use Rattle.gp_window.specs.Ids.{contains_event}
use Rattle.gp_constraint.specs.PointLaws.{IsEventOf}
use Rattle.gp_constraint.specs.Points.{number_in}

-- truth values and places say what a schedule does: of each event, whether it is executed; the event at place i of the
-- schedule has place i, and all events that are not executed have later places
pub record SaysSchedule (window : WindowForm) (schedule : List EventId) (truth : ℕ → Bool) (place : ℕ → ℤ) : Type 0 where
  pub executed : (e : EventId) → IsEventOf window e → truth (number_in window e) ≡ contains_event schedule e
  pub placed : (i : ℕ) (e : EventId) → slice_get schedule i ≡ Some e → place (number_in window e) ≡ pos i
  pub later : (e : EventId) → IsEventOf window e → contains_event schedule e ≡ false → pos (length schedule) ≤ℤ place (number_in window e)

-- a valuation of a problem with variables of these kinds that says what the schedule does, and makes the clauses and what
-- is assumed true
pub record ScheduleModel (window : WindowForm) (schedule : List EventId) (problem : Problem) (kinds : List Kind) (assumptions : List Lit) : Type 0 where
  pub truth : ℕ → Bool
  pub place : ℕ → ℤ
  pub valuation : IsValuation problem.points problem.edges kinds truth place
  pub clauses : HoldsAll truth problem.clauses
  pub assumed : All (HoldsLit truth) assumptions
  pub says : SaysSchedule window schedule truth place
