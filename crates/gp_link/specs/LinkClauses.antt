-- The clauses that say that a window runs wholly and ends in the start values of the next.
use Rattle.std.specs.Prelude.{ℕ, ℤ, Bool, true, false, not, ◌&&◌, List, [], ◌∷◌, ◌++◌, if◌then◌else◌, filter, flat_map, map}
use Rattle.std.specs.List.{list_any}
use Rattle.std.specs.Ordering.{int_eq}
use Rattle.std.specs.Str.{bytes_eq}
use Rattle.gp_window.specs.WindowForm.{start_value, WindowForm}
use Rattle.gp_constraint.specs.declared.action.Action.{Action}
use Rattle.gp_constraint.specs.declared.action.Action.TheVariants.{Write}
use Rattle.gp_constraint.specs.declared.point.Point.{Point}
use Rattle.gp_constraint.specs.declared.symbol.Symbol.TheVariants.{Last}
use Rattle.gp_constraint.specs.declared.symbol.SymbolicLit.{SymbolicLit}
use Rattle.gp_constraint.specs.declared.term.Term.{Term}
use Rattle.gp_constraint.specs.Lasts.{is_last}
use Rattle.gp_constraint.specs.Points.{points_of}
use Rattle.gp_constraint.specs.Tables.{writes_to}
use Rattle.gp_constraint.specs.Terms.{before, executed, literal, simplified}
use Rattle.gp_link.specs.Variables.{variables_of}

-- the write is the last to its variable, but for writes of the same value, or is not
abbrev pub last : Point → Bool → Term
last w positive = literal (Last w.number) positive

-- the last event of a thread is executed
abbrev pub ended_of : WindowForm → Point → List (List SymbolicLit)
ended_of window p = if is_last window p then simplified (executed p true ∷ []) else []

-- whether the value is written to the variable
abbrev pub writes_value : List ℕ → ℤ → Action → Bool
writes_value variable value (Write other written) = bytes_eq other variable && int_eq written value
writes_value variable value _ = false

-- the writes of the value to the variable
abbrev pub choices_in : List Point → List ℕ → ℤ → List Point
choices_in points variable value = filter (λ w. writes_value variable value w.action) points

-- whether two events write different values to one variable
abbrev pub are_rivals : Action → Action → Bool
are_rivals (Write variable value) (Write other written) = bytes_eq other variable && not (int_eq written value)
are_rivals _ _ = false

-- where a write is the last, another event that writes another value to its variable comes before it
abbrev pub kept_before : Point → Point → List (List SymbolicLit)
kept_before w other = if are_rivals w.action other.action then simplified (last w false ∷ before other w ∷ []) else []

-- each such event does
abbrev pub comes_last : List Point → Point → List (List SymbolicLit)
comes_last points w = flat_map (kept_before w) points

-- one of these writes is the last, and that which is the last comes after its rivals among the points
abbrev pub ends_with : List Point → List Point → List (List SymbolicLit)
ends_with points choices = simplified (map (λ w. last w true) choices) ++ flat_map (comes_last points) choices

-- a variable that is written has the value in the end: some write of it is the last
abbrev pub ends_at : List Point → List ℕ → ℤ → List (List SymbolicLit)
ends_at points variable value = ends_with points (choices_in points variable value)

-- one that is not written begins both windows with one value: where it does not, there is a clause without literals
abbrev pub stays : WindowForm → WindowForm → List ℕ → List (List SymbolicLit)
stays window next variable = if int_eq (start_value window variable) (start_value next variable) then [] else simplified []

-- of a variable
abbrev pub linked_at : WindowForm → WindowForm → List Point → List ℕ → List (List SymbolicLit)
linked_at window next points variable =
    if list_any (λ p. writes_to variable p.action) points then ends_at points variable (start_value next variable)
    else stays window next variable

-- for the last event of each thread, and then for each variable
abbrev pub link_families : WindowForm → WindowForm → List Point → List (List SymbolicLit)
link_families window next points =
    flat_map (ended_of window) points ++ flat_map (linked_at window next points) (variables_of window next points)

-- the clauses of a window and the next
abbrev pub link_clauses : WindowForm → WindowForm → List (List SymbolicLit)
link_clauses window next = link_families window next (points_of window)
