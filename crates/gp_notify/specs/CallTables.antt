-- Tables of points whose events do something to a condition.
use Rattle.std.specs.Prelude.{ℕ, ◌≡◌, List, filter}
use Rattle.gp_window.specs.WindowForm.{WindowForm}
use Rattle.gp_constraint.specs.declared.point.Point.{Point}
use Rattle.gp_constraint.specs.Points.{points_of}
use Rattle.gp_constraint.specs.Tables.{entry_at}
use Rattle.gp_notify.specs.Calls.{call_at, is_notify, is_wake, signals_on, wakes_from}

-- the points that wake from a condition
abbrev pub wakes_on : WindowForm → List Point → List ℕ → List Point
wakes_on window points condition = filter (λ (p : Point). wakes_from condition (call_at window p.id)) points

-- the points that signal it
abbrev pub signals_in : WindowForm → List Point → List ℕ → List Point
signals_in window points condition = filter (λ (p : Point). signals_on condition (call_at window p.id)) points

-- those of a window
abbrev pub signals_of_condition : WindowForm → List ℕ → List Point
signals_of_condition window condition = signals_in window (points_of window) condition

-- what the tables of some points of a window have
pub record AreTablesOf (window : WindowForm) (points : List Point) (wakes notifies : List Point) (wakers signals : List (List ℕ × List Point)) : Type 0 where
  pub wakes_are : wakes ≡ filter (λ (p : Point). is_wake (call_at window p.id)) points
  pub notifies_are : notifies ≡ filter (λ (p : Point). is_notify (call_at window p.id)) points
  pub wakers_are : (condition : List ℕ) → entry_at wakers condition ≡ wakes_on window points condition
  pub signals_are : (condition : List ℕ) → entry_at signals condition ≡ signals_in window points condition

-- and those of a window
abbrev pub AreCallTables : WindowForm → List Point → List Point → List (List ℕ × List Point) → List (List ℕ × List Point) → Type 0
AreCallTables window = AreTablesOf window (points_of window)
