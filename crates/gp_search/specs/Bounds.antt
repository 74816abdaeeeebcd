-- The bounds of literals along a trail.
use Rattle.std.specs.Prelude.{ℕ, ℤ, Option, Some, None, List}
use Rattle.std.specs.List.{filter_map}
use Rattle.gp_clause.specs.declared.edge.Edge.{Edge}
use Rattle.gp_clause.specs.declared.kind.Kind.{Kind}
use Rattle.gp_clause.specs.declared.lit.Lit.{Lit}
use Rattle.gp_clause.specs.Edge.{Keeps}
use Rattle.gp_clause.specs.Kind.{bound_at}
use Rattle.gp_difference.specs.declared.bound.Bound.{Bound}
use Rattle.gp_difference.specs.Bounds.{tagged}
use Rattle.gp_difference.specs.Places.{place_at}

-- an edge under the tag of a variable
abbrev pub under : ℕ → Option Edge → Option Bound
under variable None = None
under variable (Some edge) = Some (tagged edge variable)

-- the bounds of literals, each under its variable as tag
abbrev pub bounds_along : List Kind → List Lit → List Bound
bounds_along kinds lits = filter_map (λ lit. under lit.variable (bound_at kinds lit)) lits

-- there is a bound, and the places keep it
abbrev pub KeepsSome : List ℤ → Option Edge → Type 0
KeepsSome places None = ⊥
KeepsSome places (Some edge) = Keeps (place_at places) edge
