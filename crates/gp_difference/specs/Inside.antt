use Rattle.std.specs.Prelude.{◌≡◌, ℕ, ◌+◌, ◌-◌, ◌^◌, ◌<◌, ◌≤◌, pos, ◌+ℤ◌, ◌≤ℤ◌, length, map, take, vec_capacity}
use Rattle.gp_clause.specs.Edge.{Keeps}
use Rattle.gp_difference.specs.declared.graph.Graph.TheInside.{Inside}
use Rattle.gp_difference.specs.Places.{place_at, IsEdgeOf}
use Rattle.gp_difference.specs.Placement.{IsAtRest}
use Rattle.gp_difference.specs.Settle.{Marks}
use Rattle.gp_difference.specs.Bounds.{edge_at, edges_of, untagged}

-- what a graph keeps true of its fields: the places keep every bound, and are not being moved
pub record IsSound (graph : Inside) : Type 0 where
  pub fixed : graph.fixed ≤ length graph.bounds.bounds
  pub untagged : map untagged (edges_of (take graph.fixed graph.bounds.bounds)) ≡ take graph.fixed graph.bounds.bounds
  pub marks : (length graph.bounds.bounds - graph.fixed) + graph.room < 2 ^ 32
  pub room : graph.room ≤ graph.bounds.room
  pub points : graph.bounds.points ≡ length graph.placement.places
  pub few : length graph.placement.places ≤ 65536
  pub edges : (i : ℕ) → i < length graph.bounds.bounds → IsEdgeOf (length graph.placement.places) (edge_at graph.bounds.bounds i)
  pub kept : (i : ℕ) → i < length graph.bounds.bounds → Keeps (place_at graph.placement.places) (edge_at graph.bounds.bounds i)
  pub bottom : (v : ℕ) → pos 0 ≤ℤ (place_at graph.placement.places v +ℤ pos (2 ^ 62 + 2 ^ 28))
  pub top : (v : ℕ) → place_at graph.placement.places v ≤ℤ pos 0
  pub low : Marks graph.placement.places graph.low
  pub rest : IsAtRest graph.placement
  pub tags : length graph.placement.places + 1 ≤ vec_capacity graph.tags
