-- The query of an instance: what it assumes, and its own variables.
use Rattle.std.specs.Prelude.{ℕ, ◌-◌, ◌==◌, true, false, List, [], ◌∷◌, ◌++◌, if◌then◌else◌, drop, flat_map, length, map, nat_lt}
use Rattle.gp_clause.specs.declared.problem.Query.{Query}
use Rattle.gp_instance.specs.Matches.{groups_of}
use Rattle.gp_property.specs.PropertyForm.{PropertyForm}
use Rattle.gp_window.specs.declared.schedule.EventId.{EventId}
use Rattle.gp_window.specs.WindowForm.{WindowForm}
use Rattle.gp_window.specs.Ids.{is_same}
use Rattle.gp_constraint.specs.declared.point.Point.{Point}
use Rattle.gp_constraint.specs.declared.symbol.Symbol.{Symbol}
use Rattle.gp_constraint.specs.declared.symbol.Symbol.TheVariants.{Executed, Order, Span}
use Rattle.gp_constraint.specs.declared.symbol.SymbolicLit.{SymbolicLit}
use Rattle.gp_constraint.specs.Base.{names_in}
use Rattle.gp_constraint.specs.Numbering.{numbered_lit, with_mentions}
use Rattle.gp_constraint.specs.Points.{number_in, points_of}
use Rattle.gp_constraint.specs.Symbols.{kind_of}

-- a symbol that is true
abbrev pub holds : Symbol → SymbolicLit
holds symbol = record { symbol = symbol; positive = true }

-- one event before another, of a different thread
abbrev pub ordered : WindowForm → EventId → EventId → SymbolicLit
ordered window one other =
    if nat_lt (number_in window one) (number_in window other)
    then holds (Order (number_in window one) (number_in window other))
    else record { symbol = Order (number_in window other) (number_in window one); positive = false }

-- where they are of different threads
abbrev pub order_lit : WindowForm → EventId → EventId → List SymbolicLit
order_lit window one other = if one.thread == other.thread then [] else ordered window one other ∷ []

-- each event of a step before each of the next step; these, of the step before, are before the first
abbrev pub orders_from : WindowForm → List EventId → List (List EventId) → List SymbolicLit
orders_from window before [] = []
orders_from window before (group ∷ groups) =
    flat_map (λ one. flat_map (order_lit window one) group) before ++ orders_from window group groups

-- two different events of a group are at most so far apart
abbrev pub span_lit : WindowForm → ℕ → EventId → EventId → List SymbolicLit
span_lit window width one other =
    if is_same one other then [] else holds (Span (number_in window one) (number_in window other) width) ∷ []

-- each two events of a group of n are at most n - 1 apart
abbrev pub spans_in : WindowForm → List EventId → List SymbolicLit
spans_in window group = flat_map (λ one. flat_map (span_lit window (length group - 1) one) group) group

-- on which side of an event one of another thread stands
abbrev pub side : WindowForm → EventId → Point → List Symbol
side window id p = if id.thread == p.id.thread then [] else (ordered window id p.id).symbol ∷ []

-- on which side of each event of a group each event of another thread stands; a step of one event is no group
abbrev pub sides_of : WindowForm → List EventId → List Symbol
sides_of window [] = []
sides_of window (single ∷ []) = []
sides_of window (first ∷ second ∷ rest) = flat_map (λ id. flat_map (side window id) (points_of window)) (first ∷ second ∷ rest)

-- each event is executed
abbrev pub executed_lits : WindowForm → List EventId → List SymbolicLit
executed_lits window ids = map (λ id. holds (Executed (number_in window id))) ids

-- the orders of steps, and the spans of groups
abbrev pub pattern_lits : WindowForm → PropertyForm → List EventId → List SymbolicLit
pattern_lits window property ids =
    orders_from window [] (groups_of property.pattern ids) ++ flat_map (spans_in window) (groups_of property.pattern ids)

-- the symbols that a query mentions after those of its window, in their order
abbrev pub mentioned : WindowForm → PropertyForm → List EventId → List Symbol
mentioned window property ids =
    map (λ lit. lit.symbol) (pattern_lits window property ids) ++ flat_map (sides_of window) (groups_of property.pattern ids)

-- the symbols of the variables of a window and a query
abbrev pub query_names : WindowForm → PropertyForm → List EventId → List Symbol
query_names window property ids = with_mentions (names_in window) (mentioned window property ids)

-- the query of an instance
abbrev pub query_of : WindowForm → PropertyForm → List EventId → Query
query_of window property ids = record {
  locals = map kind_of (drop (length (names_in window)) (query_names window property ids));
  assumed = map (numbered_lit (query_names window property ids)) (executed_lits window ids ++ pattern_lits window property ids);
}
