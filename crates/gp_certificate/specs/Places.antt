-- The bounds of literals, beside fixed edges.
use Rattle.std.specs.Prelude.{◌≡◌, ◌+◌, List, ◌++◌, length, MatchBool}
use Rattle.std.specs.List.{filter_map}
use Rattle.gp_clause.specs.declared.edge.Edge.{Edge}
use Rattle.gp_clause.specs.declared.kind.Kind.{Kind}
use Rattle.gp_clause.specs.declared.lit.Lit.{Lit}
use Rattle.gp_clause.specs.Kind.{bound_at}
use Rattle.gp_clause.specs.Walk.{HasNegativeCycle}
use Rattle.gp_difference.specs.declared.bound.Bound.{Bound}
use Rattle.gp_difference.specs.Bounds.{edges_of}
use Rattle.gp_difference.specs.Graph.{GraphForm}
use Rattle.gp_certificate.specs.declared.places.Places.{Places}

-- what literals say of the places, in order
abbrev pub bounds_at : List Kind → List Lit → List Edge
bounds_at kinds lits = filter_map (bound_at kinds) lits

-- the graph has the fixed edges, unless these hold a negative cycle
abbrev pub AreFixed : Places → Type 0
AreFixed places = MatchBool places.cyclic (HasNegativeCycle places.edges) ((places.graph.edges ≡ places.edges) × (HasNegativeCycle places.edges → ⊥))

-- a graph keeps more bounds, at the cost of its room
pub record KeepsMore (old new : GraphForm) : Type 0 where
  pub points : new.points ≡ old.points
  pub edges : new.edges ≡ old.edges
  pub room : length new.kept + new.room ≡ length old.kept + old.room
  pub kept : (more : List Bound) × (new.kept ≡ old.kept ++ more)

-- all bounds of some literals were kept, and they hold no negative cycle with the fixed edges
pub record KeepsAll (edges : List Edge) (kinds : List Kind) (lits : List Lit) (old new : GraphForm) : Type 0 where
  pub bounds : edges_of new.kept ≡ edges_of old.kept ++ bounds_at kinds lits
  pub acyclic : HasNegativeCycle (edges ++ edges_of new.kept) → ⊥
