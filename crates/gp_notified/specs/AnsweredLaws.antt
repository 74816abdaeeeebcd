-- What answers to the problem of a window with its signals say of schedules: each answer to a lifted query gives a schedule with
-- pairs that are signalled, and where there is none no schedule is so.
use Rattle.std.specs.Prelude.{◌≤◌, ◌+◌, List, length}
use Rattle.gp_clause.specs.declared.problem.Query.{Query}
use Rattle.gp_clause.specs.declared.valuation.Valuation.{Valuation}
use Rattle.gp_clause.specs.Valuation.{Meets}
use Rattle.gp_window.specs.declared.schedule.EventId.{EventId}
use Rattle.gp_window.specs.WindowForm.{IsWindow, WindowForm}
use Rattle.gp_property.specs.PropertyForm.{PropertyForm}
use Rattle.gp_replay.specs.Feasible.{IsFeasible}
use Rattle.gp_constraint.specs.Base.{base_of, clauses_of}
use Rattle.gp_constraint.specs.Encoded.{IsEncodable}
use Rattle.gp_constraint.specs.Points.{points_of}
use Rattle.gp_constraint.specs.Query.{query_of}
use Rattle.gp_witness.specs.Answered.{IsWitness}
use Rattle.gp_notify.specs.Extended.{extended_of, lift, lower}
use Rattle.gp_notify.specs.Pairs.{pairs_of}
use Rattle.gp_notify.specs.Signalled.{IsSignalled}
use Rattle.gp_notify.specs.Signals.{signals_of}
use Rattle.gp_analysis.specs.Question.{HasNoValuation}
use Rattle.gp_notified.specs.declared.paired.Paired.{Paired}
use Rattle.gp_notified.specs.Shown.{IsShown}

-- an answer to a lifted query is, without the variables of signals, one to the window and the query; where the schedule that this
-- gives is feasible, it is signalled with the pairs of the answer itself; and where, up to the limits, no valuation makes
-- the lifted query of an instance true, no schedule with pairs shows it
pub record SignalsAreAnswered : Type 0 where
  pub lowered : (window : WindowForm) (query : Query) (valuation : Valuation) → IsEncodable window → Meets (extended_of window) (lift window query) valuation
      → Meets (base_of window) query (lower window valuation)
  pub paired : (window : WindowForm) (query : Query) (valuation : Valuation) (ids schedule : List EventId) → Meets (extended_of window) query valuation
      → IsWitness window (lower window valuation) ids schedule → IsFeasible window schedule → IsSignalled window schedule (pairs_of window schedule valuation)
  pub impossible : (window : WindowForm) (property : PropertyForm) (ids : List EventId) → IsWindow window → length (points_of window) ≤ 2048
      → length (clauses_of window) + length (signals_of window) ≤ 500000
      → HasNoValuation (extended_of window) (lift window (query_of window property ids)) → (paired : Paired) → IsShown window property ids paired → ⊥
