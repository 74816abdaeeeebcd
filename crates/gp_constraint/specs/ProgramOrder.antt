-- Program order: an event is executed only where the one before it in its thread is.
use Rattle.std.specs.Prelude.{negsuc, ◌-◌, ◌==◌, true, false, List, [], ◌∷◌, if◌then◌else◌, flat_map}
use Rattle.gp_clause.specs.declared.edge.Edge.{Edge}
use Rattle.gp_constraint.specs.declared.point.Point.{Point}
use Rattle.gp_constraint.specs.declared.symbol.Symbol.TheVariants.{Executed}
use Rattle.gp_constraint.specs.declared.symbol.SymbolicLit.{SymbolicLit}
use Rattle.gp_constraint.specs.Terms.{executed, literal, simplified}

-- of an event that is not its thread's first; the one before it has the number before
abbrev pub linked : Point → List (List SymbolicLit)
linked f = if f.id.index == 0 then [] else simplified (executed f false ∷ literal (Executed (f.number - 1)) true ∷ [])

-- for each event
abbrev pub program_order : List Point → List (List SymbolicLit)
program_order points = flat_map linked points

-- the edge to an event from the one before it in its thread: its place is the greater one
abbrev pub edge_to : Point → List Edge
edge_to f = if f.id.index == 0 then [] else record { a = f.number - 1; b = f.number; c = negsuc 0 } ∷ []
