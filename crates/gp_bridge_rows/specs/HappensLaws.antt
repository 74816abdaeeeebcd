-- What it means that an event is to be executed.
use Rattle.std.specs.Prelude.{ℕ, ℤ, ◌≡◌, ◌≤◌, ◌+◌, Bool, true, [], length}
use Rattle.gp_clause.specs.declared.valuation.Valuation.{Valuation}
use Rattle.gp_clause.specs.Valuation.{Meets, truth_of}
use Rattle.gp_window.specs.declared.schedule.EventId.{EventId}
use Rattle.gp_window.specs.WindowForm.{WindowForm}
use Rattle.gp_constraint.specs.declared.symbol.Symbol.{Symbol}
use Rattle.gp_constraint.specs.declared.symbol.Symbol.TheVariants.{Executed, Last}
use Rattle.gp_constraint.specs.Base.{clauses_of}
use Rattle.gp_constraint.specs.Extended.{base_with, IsMeaning, nothing_asked}
use Rattle.gp_constraint.specs.PointLaws.{IsEventOf}
use Rattle.gp_constraint.specs.Points.{number_in, points_of}
use Rattle.gp_bridge_rows.specs.Happens.{happens_in}

-- an answer to the problem of a window in which an event is to be executed has it executed; and a meaning of the symbols of
-- the window in which it is executed, and its own symbol true, is such an answer, where there are not too many clauses
pub record HappensMeans : Type 0 where
  pub sound : (window : WindowForm) (event : EventId) (valuation : Valuation) → IsEventOf window event
      → Meets (base_with window (happens_in event window)) nothing_asked valuation → truth_of valuation (number_in window event) ≡ true
  pub complete : (window : WindowForm) (event : EventId) (truth : Symbol → Bool) (place : ℕ → ℤ) → length (points_of window) ≤ 2048
      → length (clauses_of window) + length (happens_in event window) ≤ 500000 → IsMeaning window [] truth place
      → truth (Executed (number_in window event)) ≡ true → truth (Last (number_in window event)) ≡ true
      → (valuation : Valuation) × Meets (base_with window (happens_in event window)) nothing_asked valuation
