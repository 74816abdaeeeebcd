-- What a call that puts further clauses behind those of a window gives, where the window keeps its own problem.
use Rattle.std.specs.Prelude.{◌+◌, List, Result, Ok, Err, if◌then◌else◌, length, nat_lt}
use Rattle.gp_clause.specs.declared.problem.Problem.{Problem}
use Rattle.gp_window.specs.WindowForm.{WindowForm}
use Rattle.gp_constraint.specs.declared.fault.BaseFault.{BaseFault}
use Rattle.gp_constraint.specs.declared.fault.BaseFault.TheVariants.{TooLarge}
use Rattle.gp_constraint.specs.declared.symbol.Symbol.{Symbol}
use Rattle.gp_constraint.specs.declared.symbol.SymbolicLit.{SymbolicLit}
use Rattle.gp_constraint.specs.Base.{clauses_of}
use Rattle.gp_constraint.specs.Extended.{base_with, names_with}
use Rattle.gp_constraint.specs.Points.{points_of}

-- a problem, and the symbol of each of its variables
pub record ExtensionForm : Type 0 where
  pub problem : Problem
  pub names : List Symbol

-- the problem of a window with further clauses
abbrev pub extension_of : WindowForm → List (List SymbolicLit) → ExtensionForm
extension_of window more = record { problem = base_with window more; names = names_with window more }

-- what is due for a window and further clauses: the problem with these, of at most 500,000 clauses together
abbrev pub extension_due : WindowForm → List (List SymbolicLit) → Result ExtensionForm BaseFault
extension_due window more =
    if nat_lt 500000 (length (clauses_of window) + length more) then Err (TooLarge (length (points_of window)) 500001)
    else Ok (extension_of window more)
