-- The clauses of a window, family by family.
use Rattle.std.specs.Prelude.{List}
use Rattle.gp_window.specs.WindowForm.{WindowForm}
use Rattle.gp_constraint.specs.declared.base_family.BaseFamily.{BaseFamily}
use Rattle.gp_constraint.specs.declared.base_family.BaseFamily.TheVariants.{ProgramOrder, Start, Join, Read, Choice, StartChoice, Section, HeldLock}
use Rattle.gp_constraint.specs.declared.point.Point.{Point}
use Rattle.gp_constraint.specs.declared.symbol.SymbolicLit.{SymbolicLit}
use Rattle.gp_constraint.specs.HeldLocks.{held_locks}
use Rattle.gp_constraint.specs.Joins.{joins}
use Rattle.gp_constraint.specs.Points.{points_of}
use Rattle.gp_constraint.specs.ProgramOrder.{program_order}
use Rattle.gp_constraint.specs.Reads.{choices, reads, start_choices}
use Rattle.gp_constraint.specs.Sections.{sections}
use Rattle.gp_constraint.specs.Starts.{starts}

-- the clauses of a family over the points of a window
abbrev pub clauses_in : WindowForm → List Point → BaseFamily → List (List SymbolicLit)
clauses_in window points ProgramOrder = program_order points
clauses_in window points Start = starts window points
clauses_in window points Join = joins window points
clauses_in window points Read = reads window points
clauses_in window points Choice = choices points
clauses_in window points StartChoice = start_choices window points
clauses_in window points Section = sections points
clauses_in window points HeldLock = held_locks window points

-- the clauses of a family of a window
abbrev pub family_clauses : WindowForm → BaseFamily → List (List SymbolicLit)
family_clauses window family = clauses_in window (points_of window) family
