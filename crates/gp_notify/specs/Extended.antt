-- The problem of a window with the family of signals, and how queries and answers go over to it and back.
use Rattle.std.specs.Prelude.{ℕ, List, drop, length}
use Rattle.gp_clause.specs.declared.problem.Problem.{Problem}
use Rattle.gp_clause.specs.declared.problem.Query.{Query}
use Rattle.gp_clause.specs.declared.valuation.Valuation.{Valuation}
use Rattle.gp_window.specs.WindowForm.{WindowForm}
use Rattle.gp_constraint.specs.declared.symbol.Symbol.{Symbol}
use Rattle.gp_constraint.specs.Base.{names_in}
use Rattle.gp_constraint.specs.Extended.{base_with, names_with}
use Rattle.gp_notify.specs.Lift.{lifted, lowered}
use Rattle.gp_notify.specs.Signals.{signals_of}

-- the problem of a window with its signals
abbrev pub extended_of : WindowForm → Problem
extended_of window = base_with window (signals_of window)

-- the symbols of its variables
abbrev pub extended_names : WindowForm → List Symbol
extended_names window = names_with window (signals_of window)

-- those that the signals add
abbrev pub new_names : WindowForm → List Symbol
new_names window = drop (length (names_in window)) (extended_names window)

-- how many variables a window has without its signals, and how many these add
abbrev pub old_size : WindowForm → ℕ
old_size window = length (names_in window)

abbrev pub new_size : WindowForm → ℕ
new_size window = length (new_names window)

-- a query to the problem of a window, as one to the problem with signals
abbrev pub lift : WindowForm → Query → Query
lift window query = lifted (old_size window) (new_size window) query

-- an answer without the variables of signals
abbrev pub lower : WindowForm → Valuation → Valuation
lower window valuation = lowered (old_size window) (new_size window) valuation
