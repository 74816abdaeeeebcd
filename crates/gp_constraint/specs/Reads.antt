-- What a read sees: a write of its value, or the start value, and no write of another value between.
use Rattle.std.specs.Prelude.{Bool, true, false, not, ◌==◌, ◌&&◌, List, [], ◌∷◌, ◌++◌, if◌then◌else◌, flat_map, nat_lt, Some}
use Rattle.std.specs.Ordering.{int_eq}
use Rattle.std.specs.Str.{bytes_eq}
use Rattle.gp_window.specs.WindowForm.{start_value, WindowForm}
use Rattle.gp_constraint.specs.declared.action.Action.{Action}
use Rattle.gp_constraint.specs.declared.action.Action.TheVariants.{Read, Write}
use Rattle.gp_constraint.specs.declared.point.Point.{Point}
use Rattle.gp_constraint.specs.declared.symbol.SymbolicLit.{SymbolicLit}
use Rattle.gp_constraint.specs.declared.term.Term.{Term}
use Rattle.gp_constraint.specs.Terms.{before, chosen, executed, preceded, simplified, start_chosen}

-- whether it is a read
abbrev pub is_read : Action → Bool
is_read (Read variable value) = true
is_read _ = false

-- whether a write writes the value of a read to its variable
abbrev pub sees : Action → Action → Bool
sees (Read variable value) (Write other written) = bytes_eq variable other && int_eq value written
sees _ _ = false

-- whether a write writes another value to the variable of a read
abbrev pub is_rival : Action → Action → Bool
is_rival (Read variable value) (Write other written) = bytes_eq variable other && not (int_eq value written)
is_rival _ _ = false

-- whether a read finds its value when the window begins
abbrev pub finds_at_start : WindowForm → Action → Bool
finds_at_start window (Read variable value) = int_eq (start_value window variable) value
finds_at_start window _ = false

-- a choice of a read: a write of its value that does not come after it in its own thread
abbrev pub is_choice : Point → Point → Bool
is_choice r w = sees r.action w.action && not (w.id.thread == r.id.thread && nat_lt r.id.index w.id.index)

-- the literal of a choice
abbrev pub choice : Point → Point → List Term
choice r w = if is_choice r w then chosen r w true ∷ [] else []

-- the literal of the start value
abbrev pub start_choice : WindowForm → Point → List Term
start_choice window r = if finds_at_start window r.action then start_chosen r true ∷ [] else []

-- a read that is executed sees one of its choices, or the start value
abbrev pub choices_of : WindowForm → List Point → Point → List (List SymbolicLit)
choices_of window points r =
    if is_read r.action then simplified (executed r false ∷ (flat_map (choice r) points ++ start_choice window r)) else []

-- a write of another value comes before the write that is seen, or after the read
abbrev pub kept_apart : Point → Point → Point → List (List SymbolicLit)
kept_apart r w other =
    if is_rival r.action other.action
    then simplified (chosen r w false ∷ executed other false ∷ before other w ∷ before r other ∷ []) else []

-- a write that is seen is executed and comes before the read, and no write of another value stands between
abbrev pub seen_from : List Point → Point → Point → List (List SymbolicLit)
seen_from points r w =
    if is_choice r w then preceded (chosen r w false ∷ []) (Some w) r ++ flat_map (kept_apart r w) points else []

-- a write of another value comes after a read that sees the start value
abbrev pub kept_later : WindowForm → Point → Point → List (List SymbolicLit)
kept_later window r other =
    if finds_at_start window r.action && is_rival r.action other.action
    then simplified (start_chosen r false ∷ executed other false ∷ before r other ∷ []) else []

-- for each read: that it sees a value
abbrev pub reads : WindowForm → List Point → List (List SymbolicLit)
reads window points = flat_map (choices_of window points) points

-- for each read and each choice of it
abbrev pub choices : List Point → List (List SymbolicLit)
choices points = flat_map (λ r. flat_map (seen_from points r) points) points

-- for each read that may see the start value
abbrev pub start_choices : WindowForm → List Point → List (List SymbolicLit)
start_choices window points = flat_map (λ r. flat_map (kept_later window r) points) points
