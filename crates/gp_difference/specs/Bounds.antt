use Rattle.std.specs.Prelude.{◌≡◌, ◌≢◌, ℕ, ◌<◌, pos, ◌+ℤ◌, ◌<ℤ◌, Some, None, List, [], ◌∷◌, ◌++◌, length, map, slice_index_or, Contains}
use Rattle.std.specs.List.{filter_map}
use Rattle.gp_clause.specs.declared.edge.Edge.{Edge}
use Rattle.gp_difference.specs.declared.bound.Bound.{Bound}
use Rattle.gp_clause.specs.Walk.{IsWalk, weight}

-- the edges of the bounds
abbrev pub edges_of : List Bound → List Edge
edges_of bounds = map (λ bound. bound.edge) bounds

-- the tags of the bounds that have one
abbrev pub tags_of : List Bound → List ℕ
tags_of bounds = filter_map (λ bound. bound.tag) bounds

-- a fixed edge as a bound, which has no tag
abbrev pub untagged : Edge → Bound
untagged edge = record { edge = edge; tag = None }

-- an edge that was asserted, with its tag
abbrev pub tagged : Edge → ℕ → Bound
tagged edge tag = record { edge = edge; tag = Some tag }

-- each bound of a walk is one of the bounds
abbrev pub AreAmong : List Bound → List Bound → Type 0
AreAmong bounds [] = Unit {0}
AreAmong bounds (bound ∷ walk) = Contains bounds bound × AreAmong bounds walk

-- the edge that stands for none
abbrev pub no_edge : Edge
no_edge = record { a = 0; b = 0; c = pos 0 }

-- the bound that stands for none
abbrev pub no_bound : Bound
no_bound = untagged no_edge

-- the edge of a bound by its number
abbrev pub edge_at : List Bound → ℕ → Edge
edge_at bounds number = (slice_index_or bounds number no_bound).edge

-- where an edge of a walk begins
abbrev pub start_at : List Edge → ℕ → ℕ
start_at walk k = (slice_index_or walk k no_edge).a

-- no two edges of the walk begin at one point, so that none stands twice
abbrev pub IsSimple : List Edge → Type 0
IsSimple walk = (j k : ℕ) → j < k → k < length walk → start_at walk j ≢ start_at walk k

-- a walk over the bounds from the new edge's second point to its first, which with the new edge is a negative cycle
pub record Closes (bounds : List Bound) (new : Edge) (walk : List Bound) : Type 0 where
  pub leads : IsWalk new.b (edges_of walk) new.a
  pub among : AreAmong bounds walk
  pub negative : (weight (edges_of walk) +ℤ new.c) <ℤ pos 0
  pub simple : IsSimple (edges_of walk ++ new ∷ [])

-- the tags are those of the bounds on one negative cycle through the new bound, each bound once, and no others
abbrev pub Explains : List Bound → Bound → List ℕ → Type 0
Explains bounds new tags = (walk : List Bound) × Closes bounds new.edge walk × (tags ≡ tags_of (walk ++ new ∷ []))
