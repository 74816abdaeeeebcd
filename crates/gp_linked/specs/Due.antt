-- When the problem of a window and the next is due.
use Rattle.std.specs.Prelude.{◌≤◌, ◌+◌, Result, Err, if◌then◌else◌, length, nat_lt}
use Rattle.gp_window.specs.WindowForm.{WindowForm}
use Rattle.gp_constraint.specs.Base.{clauses_of}
use Rattle.gp_constraint.specs.Extending.{ExtendedForm}
use Rattle.gp_constraint.specs.Points.{points_of}
use Rattle.gp_link.specs.declared.fault.LinkFault.{LinkFault}
use Rattle.gp_link.specs.declared.fault.LinkFault.TheVariants.{TooLarge}
use Rattle.gp_link.specs.LinkClauses.{link_clauses}
use Rattle.gp_link.specs.LinkProblem.{link_due}

-- what is due for a window of at most 2,048 events and the next
abbrev pub sized_due : WindowForm → WindowForm → Result ExtendedForm LinkFault
sized_due window next =
    if nat_lt 2048 (length (points_of window)) then Err (TooLarge (length (points_of window)) 0) else link_due window next

-- neither the window nor its link to the next is too large
pub record IsSized (window next : WindowForm) : Type 0 where
  pub points : length (points_of window) ≤ 2048
  pub clauses : length (clauses_of window) + length (link_clauses window next) ≤ 500000
