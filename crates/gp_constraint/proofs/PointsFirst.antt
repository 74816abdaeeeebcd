-- The names of a window begin with its points.
use Rattle.std.proofs.Common.{ℕ, ◌≡◌, ◌<◌, ◌∙◌, length}
use Rattle.gp_window.specs.WindowForm.{WindowForm}
use Rattle.gp_constraint.specs.declared.symbol.Symbol.TheVariants.{Executed}
use Rattle.gp_constraint.specs.Base.{clauses_of, first_names, names_in}
use Rattle.gp_constraint.specs.Numbering.{number_of}
use Rattle.gp_constraint.specs.Points.{points_of}
use Rattle.gp_constraint.proofs.Names.{number_stays, of_grows, point_named, point_number}

pub points_first : (window : WindowForm) (point : ℕ) → point < length (points_of window) → number_of (names_in window) (Executed point) ≡ point
points_first window point below =
    number_stays (Executed point) (first_names window) (names_in window) (of_grows (first_names window) (clauses_of window)) (point_named point (length (points_of window)) below)
    ∙ point_number point (length (points_of window)) below
