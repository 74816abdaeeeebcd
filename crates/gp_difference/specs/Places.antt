use Rattle.std.specs.Prelude.{ℕ, ◌^◌, ◌<◌, ℤ, pos, ◌+ℤ◌, ◌≤ℤ◌, ◌<ℤ◌, List, length, All, slice_index_or}
use Rattle.gp_clause.specs.declared.edge.Edge.{Edge}
use Rattle.gp_clause.specs.Edge.{Keeps}
use Rattle.gp_difference.specs.declared.bound.Bound.{Bound}
use Rattle.gp_difference.specs.Bounds.{edges_of, Closes}

-- the place of a point
abbrev pub place_at : List ℤ → ℕ → ℤ
place_at places point = slice_index_or places point (pos 0)

-- the places keep every edge
abbrev pub KeepsAll : List ℤ → List Edge → Type 0
KeepsAll places edges = All (Keeps (place_at places)) edges

-- no places keep the bounds of a walk and the edge that closes a negative cycle with it
abbrev pub ClosedWalksRefute : Type 0
ClosedWalksRefute = (place : ℕ → ℤ) (bounds : List Bound) (edge : Edge) (walk : List Bound) →
    Closes bounds edge walk → All (Keeps place) (edges_of walk) → Keeps place edge → ⊥

-- both points of an edge are points of the graph, and its number is within 4,096 of zero
pub record IsEdgeOf (points : ℕ) (edge : Edge) : Type 0 where
  pub first : edge.a < points
  pub second : edge.b < points
  pub low : pos 0 ≤ℤ (edge.c +ℤ pos 4096)
  pub high : edge.c ≤ℤ pos 4096

-- no place is below the number
abbrev pub NoneBelow : ℤ → List ℤ → Type 0
NoneBelow low places = All (λ place. low ≤ℤ place) places

-- places that were made anew lie from minus 2 ^ 28 to zero
abbrev pub AreFresh : List ℤ → Type 0
AreFresh places = All (λ place. (pos 0 ≤ℤ (place +ℤ pos (2 ^ 28))) × (place ≤ℤ pos 0)) places

-- some place is below minus 2 ^ 62
abbrev pub AreLow : List ℤ → Type 0
AreLow places = (point : ℕ) × (point < length places) × ((place_at places point +ℤ pos (2 ^ 62)) <ℤ pos 0)
