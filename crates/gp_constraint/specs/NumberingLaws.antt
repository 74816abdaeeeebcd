-- A law of numbering: point p is executed is variable p.
use Rattle.std.specs.Prelude.{ℕ, ◌≡◌, ◌<◌, length}
use Rattle.gp_window.specs.WindowForm.{WindowForm}
use Rattle.gp_constraint.specs.declared.symbol.Symbol.TheVariants.{Executed}
use Rattle.gp_constraint.specs.Base.{names_in}
use Rattle.gp_constraint.specs.Numbering.{number_of}
use Rattle.gp_constraint.specs.Points.{points_of}

-- the names of a window begin with its points
abbrev pub PointsComeFirst : Type 0
PointsComeFirst = (window : WindowForm) (point : ℕ) → point < length (points_of window) → number_of (names_in window) (Executed point) ≡ point
