-- The variables of which a link speaks, by name.
use Rattle.std.specs.Prelude.{ℕ, List, [], ◌∷◌}
use Rattle.std.specs.Cmp.Lexicographic.{slice_cmp}
use Rattle.std.specs.Map.{keys_of}
use Rattle.std.specs.Ordering.{nat_cmp}
use Rattle.gp_base.specs.Table.{with_entry}
use Rattle.gp_window.specs.WindowForm.{WindowForm}
use Rattle.gp_constraint.specs.declared.action.Action.{Action}
use Rattle.gp_constraint.specs.declared.action.Action.TheVariants.{Write}
use Rattle.gp_constraint.specs.declared.point.Point.{Point}

-- a table that has nothing but names
abbrev pub Names : Type 0
Names = List (List ℕ × Unit {0})

-- the names with further ones, each once
abbrev pub with_names : Names → List (List ℕ) → Names
with_names names [] = names
with_names names (name ∷ more) = with_names (with_entry (slice_cmp nat_cmp) names name tt) more

-- the variable that is written
abbrev pub written_by : Action → List (List ℕ)
written_by (Write variable value) = variable ∷ []
written_by _ = []

-- the names with those of the variables that are written
abbrev pub with_written : Names → List Point → Names
with_written names [] = names
with_written names (p ∷ points) = with_written (with_names names (written_by p.action)) points

-- the names of the variables that are written, and of those that have a start value here or in the next window
abbrev pub names_of : WindowForm → WindowForm → List Point → Names
names_of window next points = with_names (with_names (with_written [] points) (keys_of window.start_values)) (keys_of next.start_values)

-- these variables, by name, each once
abbrev pub variables_of : WindowForm → WindowForm → List Point → List (List ℕ)
variables_of window next points = keys_of (names_of window next points)
