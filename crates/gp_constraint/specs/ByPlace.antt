-- The executed events of an answer, in the order of their places.
use Rattle.std.specs.Prelude.{ℤ, ◌≡◌, ◌⊎◌, ◌<ℤ◌, true, List, Contains}
use Rattle.std.specs.List.{AllPairs}
use Rattle.gp_clause.specs.declared.valuation.Valuation.{Valuation}
use Rattle.gp_clause.specs.Valuation.{place_of, truth_of}
use Rattle.gp_window.specs.declared.schedule.EventId.{EventId}
use Rattle.gp_window.specs.WindowForm.{WindowForm}
use Rattle.gp_window.specs.Ids.{IsLess}
use Rattle.gp_constraint.specs.Points.{number_in}
use Rattle.gp_constraint.specs.PointLaws.{IsEventOf}

-- the event is one of the window, and the answer has it executed
abbrev pub IsExecuted : WindowForm → Valuation → EventId → Type 0
IsExecuted window valuation id = IsEventOf window id × (truth_of valuation (number_in window id) ≡ true)

-- the place that the answer gives an event
abbrev pub place_in : WindowForm → Valuation → EventId → ℤ
place_in window valuation id = place_of valuation (number_in window id)

-- one event comes before another: it has a lesser place, or at one place it is the lesser one
abbrev pub ComesBefore : WindowForm → Valuation → EventId → EventId → Type 0
ComesBefore window valuation one other =
    (place_in window valuation one <ℤ place_in window valuation other)
    ⊎ ((place_in window valuation one ≡ place_in window valuation other) × IsLess one other)

-- the schedule has just the executed events, each once, by place, then by thread, then by index
pub record IsByPlace (window : WindowForm) (valuation : Valuation) (schedule : List EventId) : Type 0 where
  pub sorted : AllPairs (ComesBefore window valuation) schedule
  pub only : (id : EventId) → Contains schedule id → IsExecuted window valuation id
  pub all : (id : EventId) → IsExecuted window valuation id → Contains schedule id
