-- The truths of variables beside their assignments.
use Rattle.std.specs.Prelude.{◌≡◌, Bool, true, false, Option, Some, None, List, map, if◌then◌else◌}
use Rattle.gp_sat.specs.declared.assigned.Assigned.{Assigned}
use Rattle.gp_sat.specs.declared.values.Truth.{Truth}
use Rattle.gp_sat.specs.declared.values.Truth.TheVariants.{False, True, Unknown}

-- the truth of a variable that is assigned
abbrev pub truth_if : Bool → Truth
truth_if positive = if positive then True else False

-- the truth that an assignment gives
abbrev pub truth_of : Option Assigned → Truth
truth_of None = Unknown
truth_of (Some a) = truth_if a.positive

-- a truth, if it is known
abbrev pub known : Truth → Option Bool
known False = Some false
known True = Some true
known Unknown = None

-- a row of truths is that of a row of assignments
abbrev pub AreTruths : List Truth → List (Option Assigned) → Type 0
AreTruths truths values = truths ≡ map truth_of values
