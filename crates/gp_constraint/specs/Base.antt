-- The base constraints of a window: the families over symbols, then by numbers.
use Rattle.std.specs.Prelude.{List, ◌++◌, flat_map, length, map}
use Rattle.gp_clause.specs.declared.problem.Problem.{Problem}
use Rattle.gp_window.specs.WindowForm.{WindowForm}
use Rattle.gp_constraint.specs.declared.point.Point.{Point}
use Rattle.gp_constraint.specs.declared.symbol.Symbol.{Symbol}
use Rattle.gp_constraint.specs.declared.symbol.SymbolicLit.{SymbolicLit}
use Rattle.gp_constraint.specs.HeldLocks.{held_locks}
use Rattle.gp_constraint.specs.Joins.{joins}
use Rattle.gp_constraint.specs.Numbering.{names_of, numbered, point_names}
use Rattle.gp_constraint.specs.Points.{points_of}
use Rattle.gp_constraint.specs.ProgramOrder.{edge_to, program_order}
use Rattle.gp_constraint.specs.Reads.{choices, reads, start_choices}
use Rattle.gp_constraint.specs.Sections.{sections}
use Rattle.gp_constraint.specs.Starts.{starts}
use Rattle.gp_constraint.specs.Symbols.{kind_of}

-- all families over the points of a window, in their order
abbrev pub all_families : WindowForm → List Point → List (List SymbolicLit)
all_families window points =
    program_order points
    ++ (starts window points
    ++ (joins window points
    ++ (reads window points
    ++ (choices points
    ++ (start_choices window points
    ++ (sections points
    ++ held_locks window points))))))

-- the clauses of a window over symbols
abbrev pub clauses_of : WindowForm → List (List SymbolicLit)
clauses_of window = all_families window (points_of window)

-- the names before the first clause of a window
abbrev pub first_names : WindowForm → List Symbol
first_names window = point_names (length (points_of window))

-- the symbols of a window's variables, each at the place of its variable
abbrev pub names_in : WindowForm → List Symbol
names_in window = names_of (first_names window) (clauses_of window)

-- the problem of a window
abbrev pub base_of : WindowForm → Problem
base_of window = record {
  points = length (points_of window);
  kinds = map kind_of (names_in window);
  edges = flat_map edge_to (points_of window);
  clauses = numbered (first_names window) (clauses_of window);
}
