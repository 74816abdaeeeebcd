-- What the families of reads say, of the writes of a read's variable alone.
use Rattle.std.specs.Prelude.{List, [], ◌∷◌, ◌++◌, false, Some, if◌then◌else◌, filter, flat_map}
use Rattle.gp_constraint.specs.declared.point.Point.{Point}
use Rattle.gp_constraint.specs.declared.symbol.SymbolicLit.{SymbolicLit}
use Rattle.gp_constraint.specs.Reads.{is_choice, is_rival, kept_apart}
use Rattle.gp_constraint.specs.Terms.{before, chosen, executed, preceded, simplified, start_chosen}

-- the choices of a read among writes
abbrev pub choices_in : List Point → Point → List Point
choices_in writes r = filter (is_choice r) writes

-- the writes of another value among writes
abbrev pub rivals_in : List Point → Point → List Point
rivals_in writes r = filter (λ w. is_rival r.action w.action) writes

-- a choice is executed and comes before the read, and no rival stands between
abbrev pub seen : List Point → Point → Point → List (List SymbolicLit)
seen rivals r w = preceded (chosen r w false ∷ []) (Some w) r ++ flat_map (kept_apart r w) rivals

-- a rival comes after a read that sees the start value
abbrev pub kept_from : Point → Point → List (List SymbolicLit)
kept_from r other =
    if is_rival r.action other.action
    then simplified (start_chosen r false ∷ executed other false ∷ before r other ∷ []) else []
