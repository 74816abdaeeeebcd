-- Models of the constraints of a window, over symbols.
use Rattle.std.specs.Prelude.{ℕ, pos, ◌≡◌, ◌≢◌, ◌<◌, ◌↔◌, ◌-ℤ◌, ◌≤ℤ◌, ◌<ℤ◌, true, List, length, Contains}
use Rattle.gp_constraint.specs.declared.symbol.Symbol.TheVariants.{Executed, Order, Span}
use Rattle.gp_constraint.specs.Laws.{BaseMeans}
use Rattle.gp_constraint.specs.Points.{number_in, points_of}
use Rattle.gp_constraint.specs.ScheduleModels.{SaysSchedule}
use Rattle.gp_constraint.specs.SymbolTruth.{SymbolTruth}
use Rattle.gp_window.specs.declared.schedule.EventId.{EventId}
use Rattle.gp_window.specs.WindowForm.{WindowForm}
use Rattle.gp_reason.specs.declared.fact.Fact.{Fact}
use Rattle.gp_reason.specs.Truth.{HoldsBy}

-- a truth of symbols and places of points meet the constraints of a window: its clauses are true and places rise along threads, no two
-- points share a place, and orders and distances are true exactly where the places say so
pub record IsModel (window : WindowForm) (t : SymbolTruth) : Type 0 where
  pub base : BaseMeans window t
  pub apart : (one other : ℕ) → one < length (points_of window) → other < length (points_of window) → one ≢ other → t.places one ≢ t.places other
  pub orders : (one other : ℕ) → (t.symbols (Order one other) ≡ true) ↔ (t.places one <ℤ t.places other)
  pub distances : (one other width : ℕ) → (t.symbols (Span one other width) ≡ true) ↔ ((t.places one -ℤ t.places other) ≤ℤ pos width)

-- they say what a schedule does: which events are executed, each at its place in the schedule, and the others later
abbrev pub IsOfSchedule : WindowForm → List EventId → SymbolTruth → Type 0
IsOfSchedule window schedule t = SaysSchedule window schedule (λ point. t.symbols (Executed point)) t.places

-- some of the facts holds by them
abbrev pub SomeHolds : WindowForm → SymbolTruth → List Fact → Type 0
SomeHolds window t facts = (fact : Fact) × Contains facts fact × HoldsBy (number_in window) t fact
