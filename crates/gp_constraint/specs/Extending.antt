-- What a call that puts further clauses behind those of a window gives.
use Rattle.std.specs.Prelude.{ℕ, ◌+◌, ◌++◌, List, Result, Ok, Err, if◌then◌else◌, length, map, nat_lt}
use Rattle.gp_clause.specs.declared.problem.Problem.{Problem}
use Rattle.gp_window.specs.WindowForm.{WindowForm}
use Rattle.gp_constraint.specs.declared.fault.BaseFault.{BaseFault}
use Rattle.gp_constraint.specs.declared.fault.BaseFault.TheVariants.{TooLarge}
use Rattle.gp_constraint.specs.declared.symbol.Symbol.{Symbol}
use Rattle.gp_constraint.specs.declared.symbol.SymbolicLit.{SymbolicLit}
use Rattle.gp_constraint.specs.Base.{clauses_of}
use Rattle.gp_constraint.specs.Extended.{base_with, names_with}
use Rattle.gp_constraint.specs.Numbering.{names_of, numbered}
use Rattle.gp_constraint.specs.Points.{points_of, sizes_of}
use Rattle.gp_constraint.specs.Symbols.{kind_of}

-- a window, its problem, the symbol of each of its variables, and how many events each thread has
pub record ExtendedForm : Type 0 where
  pub window : WindowForm
  pub problem : Problem
  pub names : List Symbol
  pub sizes : List ℕ

-- further clauses behind those of a window's problem, numbered after them
abbrev pub with_further : WindowForm → Problem → List Symbol → List ℕ → List (List SymbolicLit) → ExtendedForm
with_further window problem names sizes more = record {
  window = window;
  problem = record {
    points = problem.points;
    kinds = map kind_of (names_of names more);
    edges = problem.edges;
    clauses = problem.clauses ++ numbered names more;
  };
  names = names_of names more;
  sizes = sizes;
}

-- a window, its problem with further clauses, and its numbers
abbrev pub extended_of : WindowForm → List (List SymbolicLit) → ExtendedForm
extended_of window more = record { window = window; problem = base_with window more; names = names_with window more; sizes = sizes_of window }

-- what is due for a window and further clauses: the window and its problem with these, of at most 500,000 clauses together
abbrev pub extended_due : WindowForm → List (List SymbolicLit) → Result ExtendedForm BaseFault
extended_due window more =
    if nat_lt 500000 (length (clauses_of window) + length more) then Err (TooLarge (length (points_of window)) 500001)
    else Ok (extended_of window more)
