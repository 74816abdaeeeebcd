-- What answers to the problem of a window and the next say of schedules: each answer gives a schedule that links the two, and
-- each schedule that links them gives an answer.
use Rattle.std.specs.Prelude.{ℕ, ℤ, ◌≤◌, ◌+◌, Bool, List, [], length}
use Rattle.gp_clause.specs.declared.problem.Query.{Query}
use Rattle.gp_clause.specs.declared.valuation.Valuation.{Valuation}
use Rattle.gp_clause.specs.Valuation.{Meets}
use Rattle.gp_window.specs.declared.schedule.EventId.{EventId}
use Rattle.gp_window.specs.WindowForm.{IsWindow, WindowForm}
use Rattle.gp_constraint.specs.Base.{clauses_of}
use Rattle.gp_constraint.specs.ByPlace.{IsByPlace}
use Rattle.gp_constraint.specs.Extended.{IsExtendedModel, nothing_asked}
use Rattle.gp_constraint.specs.Points.{points_of}
use Rattle.gp_constraint.specs.ScheduleModels.{ScheduleModel}
use Rattle.gp_whole.specs.Linked.{IsLinked, Links}
use Rattle.gp_link.specs.LinkClauses.{link_clauses}
use Rattle.gp_link.specs.LinkProblem.{link_problem_of}

-- the executed events of an answer to the problem of a window and the next, whatever the query, are by their places a schedule
-- that links the two. A schedule that links a window of at most 2,048 events to the next is a model of their problem that says
-- what it does; where their clauses are not too many, it is an answer; and where no valuation makes the clauses true, no
-- schedule links the two
pub record LinksAreAnswered : Type 0 where
  pub links : (window next : WindowForm) (query : Query) (valuation : Valuation) (schedule : List EventId) → IsWindow window → IsWindow next
      → Meets (link_problem_of window next) query valuation → IsByPlace window valuation schedule → Links window next schedule
  pub model : (window next : WindowForm) (schedule : List EventId) → IsWindow window → IsWindow next → length (points_of window) ≤ 2048
      → Links window next schedule → ScheduleModel window schedule (link_problem_of window next) (link_problem_of window next).kinds []
  pub answer : (window next : WindowForm) (schedule : List EventId) → IsWindow window → IsWindow next → length (points_of window) ≤ 2048
      → length (clauses_of window) + length (link_clauses window next) ≤ 500000 → Links window next schedule
      → (valuation : Valuation) × Meets (link_problem_of window next) nothing_asked valuation
  pub unlinked : (window next : WindowForm) → IsWindow window → IsWindow next → length (points_of window) ≤ 2048
      → ((truth : ℕ → Bool) (place : ℕ → ℤ) → IsExtendedModel window (link_clauses window next) truth place → ⊥) → IsLinked window next → ⊥
