-- Laws of bounds.
use Rattle.std.specs.Prelude.{◌≡◌, List, [], ◌∷◌, map}
use Rattle.std.proofs.Common.{refl, ap}
use Rattle.gp_clause.specs.declared.edge.Edge.{Edge}
use Rattle.gp_difference.specs.Bounds.{edges_of, untagged}

-- fixed edges are the edges of their bounds
pub edges_of-untagged : (edges : List Edge) → edges_of (map untagged edges) ≡ edges
edges_of-untagged [] = refl
edges_of-untagged (edge ∷ edges) = ap (λ es. edge ∷ es) (edges_of-untagged edges)
