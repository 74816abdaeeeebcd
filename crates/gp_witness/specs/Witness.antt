-- The schedule that an answer gives: the executed events in the order of their places.
use Rattle.std.specs.Prelude.{◌≡◌, true, List, [], ◌∷◌, if◌then◌else◌}
use Rattle.std.specs.List.{list_any}
use Rattle.gp_clause.specs.declared.problem.Query.{Query}
use Rattle.gp_clause.specs.declared.valuation.Valuation.{Valuation}
use Rattle.gp_clause.specs.Valuation.{Meets}
use Rattle.gp_instance.specs.Instance.{is_instance}
use Rattle.gp_instance.specs.Matches.{matches_events}
use Rattle.gp_property.specs.Property.{IsProperty}
use Rattle.gp_property.specs.PropertyForm.{PropertyForm}
use Rattle.gp_window.specs.declared.schedule.EventId.{EventId}
use Rattle.gp_window.specs.WindowForm.{IsWindow, WindowForm}
use Rattle.gp_window.specs.Ids.{contains_event}
use Rattle.gp_replay.specs.Feasible.{IsFeasible}
use Rattle.gp_constraint.specs.Base.{base_of}
use Rattle.gp_constraint.specs.Query.{query_of}
pub use Rattle.gp_constraint.specs.ByPlace.{ComesBefore, IsByPlace, IsExecuted, place_in}

-- exactly one list has the executed events by place
pub record OneIsByPlace (window : WindowForm) (valuation : Valuation) : Type 0 where
  pub schedule : List EventId
  pub by_place : IsByPlace window valuation schedule
  pub only : (other : List EventId) → IsByPlace window valuation other → other ≡ schedule

-- a schedule up to the last of these events
abbrev pub up_to_last : List EventId → List EventId → List EventId
up_to_last events [] = []
up_to_last events (id ∷ ids) = if list_any (contains_event events) (id ∷ ids) then id ∷ up_to_last events ids else []

-- the executed events of an answer to the problem of a window are a feasible schedule in the order of their places; and
-- where the query is that of an instance, they match it, and do so up to the last event of the instance; any valuation has
-- exactly one list of them
pub record WitnessesAreSound : Type 0 where
  pub base : (window : WindowForm) (query : Query) (valuation : Valuation) (schedule : List EventId)
      → IsWindow window → Meets (base_of window) query valuation → IsByPlace window valuation schedule → IsFeasible window schedule
  pub instance : (window : WindowForm) (property : PropertyForm) (ids : List EventId) (valuation : Valuation) (schedule : List EventId)
      → IsWindow window → IsProperty property → is_instance window property ids ≡ true → Meets (base_of window) (query_of window property ids) valuation
      → IsByPlace window valuation schedule
      → IsFeasible window (up_to_last ids schedule) × (matches_events property ids (up_to_last ids schedule) ≡ true)
  pub one : (window : WindowForm) (valuation : Valuation) → OneIsByPlace window valuation
