-- What the base of a window gives: the window with its problem, and the numbers of its symbols and events. Contracts see it
-- as its window, of which all the rest is made.
use Rattle.std.specs.Prelude.{◌≡◌, ℕ, zero, suc, ◌<◌, ◌≤◌, ◌^◌, Bool, true, false, ◌==◌, List, Option, Some, None, Result, Ok, Err, if◌then◌else◌, length, nat_lt, option_map, position, slice_get, unwrap_or}
use Rattle.gp_clause.specs.declared.lit.Lit.{Lit}
use Rattle.gp_clause.specs.declared.problem.Problem.{Problem}
use Rattle.gp_window.specs.declared.schedule.EventId.{EventId}
use Rattle.gp_window.specs.WindowForm.{WindowForm}
use Rattle.gp_constraint.specs.declared.fault.BaseFault.{BaseFault}
use Rattle.gp_constraint.specs.declared.fault.BaseFault.TheVariants.{TooLarge}
use Rattle.gp_constraint.specs.declared.point.Point.{Point}
use Rattle.gp_constraint.specs.declared.symbol.Symbol.{Symbol}
use Rattle.gp_constraint.specs.declared.symbol.Symbol.TheVariants.{Order}
use Rattle.gp_constraint.specs.Base.{base_of, clauses_of, names_in}
use Rattle.gp_constraint.specs.Points.{number_at, points_of, sizes_of}
use Rattle.gp_constraint.specs.Symbols.{symbol_eq}

-- a window of so many events is too large, and so many of its clauses were counted
abbrev pub too_large : ℕ → ℕ → Result WindowForm BaseFault
too_large events clauses = Err (TooLarge events clauses)

-- the base of a window of at most 2,048 events and 500,000 clauses
abbrev pub base_due : WindowForm → Result WindowForm BaseFault
base_due window =
    if nat_lt 2048 (length (points_of window)) then too_large (length (points_of window)) 0
    else (if nat_lt 500000 (length (clauses_of window)) then too_large (length (points_of window)) 500001
    else Ok window)

-- the window is not too large
pub record IsEncodable (window : WindowForm) : Type 0 where
  pub points : length (points_of window) ≤ 2048
  pub clauses : length (clauses_of window) ≤ 500000

-- points, names of variables, sizes of threads and a problem are those of a window that is not too large
pub record IsBase (window : WindowForm) (points : List Point) (names : List Symbol) (sizes : List ℕ) (problem : Problem) : Type 0 where
  pub points_are : points ≡ points_of window
  pub names_are : names ≡ names_in window
  pub sizes_are : sizes ≡ sizes_of window
  pub problem_is : problem ≡ base_of window
  pub encodable : IsEncodable window

-- how many events a thread has; threads count from 1
abbrev pub size_at : List ℕ → ℕ → ℕ
size_at sizes zero = 0
size_at sizes (suc place) = unwrap_or (slice_get sizes place) 0

-- the number of an event, where there is one
abbrev pub point_in : List ℕ → EventId → Option ℕ
point_in sizes id = if nat_lt id.index (size_at sizes id.thread) then Some (number_at sizes id.thread id.index) else None

-- a literal of a symbol, where it has a variable
abbrev pub symbol_lit : List Symbol → Symbol → Bool → Option Lit
symbol_lit names symbol positive = option_map (λ variable. record { variable = variable; positive = positive }) (position (symbol_eq symbol) names)

-- that one point is before another, as a literal
abbrev pub order_between : List Symbol → ℕ → ℕ → Option Lit
order_between names one other =
    if nat_lt one other then symbol_lit names (Order one other) true else symbol_lit names (Order other one) false

-- the same of two points that are there
abbrev pub order_of_points : List Symbol → Option ℕ → Option ℕ → Option Lit
order_of_points names (Some one) (Some other) = order_between names one other
order_of_points names _ _ = None

-- that one event is before another, as a literal; nothing where one of them is not there, both are of one thread, or the
-- constraints do not speak of their order
abbrev pub order_in : WindowForm → EventId → EventId → Option Lit
order_in window one other =
    if one.thread == other.thread then None
    else order_of_points (names_in window) (point_in (sizes_of window) one) (point_in (sizes_of window) other)

-- each number of an event fits
abbrev pub IsSmall : List ℕ → Type 0
IsSmall sizes = (id : EventId) → nat_lt id.index (size_at sizes id.thread) ≡ true → number_at sizes id.thread id.index < 2 ^ 32
