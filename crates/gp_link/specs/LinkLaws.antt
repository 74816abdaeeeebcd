-- What the problem of a window and the next says: where the executed events of an answer are feasible by place, they link the
-- two; and a schedule that links them extends each model of the window that says what it does.
use Rattle.std.specs.Prelude.{◌≤◌, ◌+◌, List, [], length}
use Rattle.gp_clause.specs.declared.problem.Query.{Query}
use Rattle.gp_clause.specs.declared.valuation.Valuation.{Valuation}
use Rattle.gp_clause.specs.Problem.{IsValidProblem}
use Rattle.gp_clause.specs.Valuation.{Meets}
use Rattle.gp_window.specs.declared.schedule.EventId.{EventId}
use Rattle.gp_window.specs.WindowForm.{IsWindow, WindowForm}
use Rattle.gp_replay.specs.Feasible.{IsFeasible}
use Rattle.gp_constraint.specs.Base.{base_of, clauses_of}
use Rattle.gp_constraint.specs.ByPlace.{IsByPlace}
use Rattle.gp_constraint.specs.Points.{points_of}
use Rattle.gp_constraint.specs.ScheduleModels.{ScheduleModel}
use Rattle.gp_constraint.specs.Signed.{AreSigned}
use Rattle.gp_whole.specs.Linked.{Links}
use Rattle.gp_link.specs.LinkClauses.{link_clauses}
use Rattle.gp_link.specs.LinkProblem.{link_problem_of}

-- the executed events of an answer to the problem of a window and the next, whatever the query, are by their places a
-- schedule that links the two, where they are feasible
abbrev pub LinksAreSound : Type 0
LinksAreSound = (window next : WindowForm) (query : Query) (valuation : Valuation) (schedule : List EventId) → IsWindow window → IsWindow next
    → Meets (link_problem_of window next) query valuation → IsByPlace window valuation schedule
    → IsFeasible window schedule → Links window next schedule

-- where a schedule links a window of at most 2,048 events to the next, a model of the window's own problem that says what the
-- schedule does extends to one of the problem of both
abbrev pub LinksAreComplete : Type 0
LinksAreComplete = (window next : WindowForm) (schedule : List EventId) → IsWindow window → IsWindow next → length (points_of window) ≤ 2048
    → Links window next schedule → ScheduleModel window schedule (base_of window) (base_of window).kinds []
    → ScheduleModel window schedule (link_problem_of window next) (link_problem_of window next).kinds []

-- where a window is not too large, and its clauses and those of it and the next together are at most 500,000, the problem of
-- both is valid; and in none of the link's clauses has a symbol both signs
pub record LinksAreValid : Type 0 where
  pub problem : (window next : WindowForm) → length (points_of window) ≤ 2048 → length (clauses_of window) + length (link_clauses window next) ≤ 500000
      → IsValidProblem (link_problem_of window next)
  pub signed : (window next : WindowForm) → AreSigned (link_clauses window next)
