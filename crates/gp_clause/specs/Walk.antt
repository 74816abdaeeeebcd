-- Walks over edges, and cycles whose weight is below zero.
use Rattle.std.specs.Prelude.{◌≡◌, ℕ, ℤ, pos, ◌+ℤ◌, ◌<ℤ◌, List, [], ◌∷◌, All, Contains}
use Rattle.gp_clause.specs.declared.edge.Edge.{Edge}
use Rattle.gp_clause.specs.Edge.{Keeps}

-- a walk from one point to another: it begins at each edge's first point and goes on from its second
abbrev pub IsWalk : ℕ → List Edge → ℕ → Type 0
IsWalk from [] to = from ≡ to
IsWalk from (edge ∷ edges) to = (edge.a ≡ from) × IsWalk edge.b edges to

-- the sum of what the edges of a walk allow
abbrev pub weight : List Edge → ℤ
weight [] = pos 0
weight (edge ∷ edges) = edge.c +ℤ weight edges

-- each edge of a walk is one of the edges
abbrev pub IsAmong : List Edge → List Edge → Type 0
IsAmong edges [] = Unit {0}
IsAmong edges (edge ∷ walk) = Contains edges edge × IsAmong edges walk

-- a walk over the edges that ends where it began and whose weight is below zero
pub record IsNegativeCycle (edges : List Edge) (point : ℕ) (cycle : List Edge) : Type 0 where
  pub closed : IsWalk point cycle point
  pub among : IsAmong edges cycle
  pub negative : weight cycle <ℤ pos 0

-- some walk over the edges is a negative cycle
abbrev pub HasNegativeCycle : List Edge → Type 0
HasNegativeCycle edges = (point : ℕ) × (cycle : List Edge) × IsNegativeCycle edges point cycle

-- places that keep every edge leave no negative cycle among them
abbrev pub KeepingLeavesNoCycle : Type 0
KeepingLeavesNoCycle = (place : ℕ → ℤ) (edges : List Edge) → All (Keeps place) edges → HasNegativeCycle edges → ⊥
