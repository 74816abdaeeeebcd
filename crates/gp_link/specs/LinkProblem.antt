-- The problem of a window and the next, and when it is due.
use Rattle.std.specs.Prelude.{◌+◌, Result, Ok, Err, if◌then◌else◌, length, nat_lt}
use Rattle.gp_clause.specs.declared.problem.Problem.{Problem}
use Rattle.gp_window.specs.WindowForm.{WindowForm}
use Rattle.gp_constraint.specs.declared.fault.BaseFault.{BaseFault}
use Rattle.gp_constraint.specs.declared.fault.BaseFault.TheVariants as base
use Rattle.gp_constraint.specs.Base.{clauses_of}
use Rattle.gp_constraint.specs.Extended.{base_with}
use Rattle.gp_constraint.specs.Extending.{extended_of, ExtendedForm}
use Rattle.gp_constraint.specs.Points.{points_of}
use Rattle.gp_link.specs.declared.fault.LinkFault.{LinkFault}
use Rattle.gp_link.specs.declared.fault.LinkFault.TheVariants.{Memory, TooLarge}
use Rattle.gp_link.specs.LinkClauses.{link_clauses}

-- the problem of a window and the next: the clauses of the window, and behind them those of the link
abbrev pub link_problem_of : WindowForm → WindowForm → Problem
link_problem_of window next = base_with window (link_clauses window next)

-- a fault of the problem of a window with further clauses, as one of the link
abbrev pub fault_of : BaseFault → LinkFault
fault_of (base.TooLarge events clauses) = TooLarge events clauses
fault_of base.Memory = Memory

-- what is due for a window and the next: their problem, of at most 500,000 clauses
abbrev pub link_due : WindowForm → WindowForm → Result ExtendedForm LinkFault
link_due window next =
    if nat_lt 500000 (length (clauses_of window) + length (link_clauses window next)) then Err (TooLarge (length (points_of window)) 500001)
    else Ok (extended_of window (link_clauses window next))
