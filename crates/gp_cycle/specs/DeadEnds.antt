-- Orders from which one cannot go on for ever, found by counts that only grow.
use Rattle.std.specs.Prelude.{ℕ, ◌≡◌, ◌<◌, ◌≤◌, true, Contains, List, Some, get_or, length, slice_get}
use Rattle.gp_cycle.specs.declared.order.Order.{Order}
use Rattle.gp_cycle.specs.Cycle.{leads}
use Rattle.gp_cycle.specs.Laws.{IsCycle}

-- the order at a place goes on by none of the first orders, so many as are counted for it; where these are all, it is a dead end
abbrev pub IsDeadEnd : List Order → List ℕ → ℕ → Type 0
IsDeadEnd orders counts place = length orders ≤ get_or counts place 0

-- an order does not lead to the one at a place, or that is a dead end
abbrev pub StopsAt : List Order → List ℕ → Order → ℕ → Type 0
StopsAt orders counts order place = (next : Order) → slice_get orders place ≡ Some next → leads order next ≡ true → IsDeadEnd orders counts place

-- no order on a cycle is a dead end
abbrev pub SparesCycles : List Order → List ℕ → Type 0
SparesCycles orders counts = (cycle : List Order) (place : ℕ) (order : Order) → IsCycle orders cycle → Contains cycle order → slice_get orders place ≡ Some order
    → IsDeadEnd orders counts place → ⊥

-- a count for each order, by none of which it goes on, and no order on a cycle is a dead end
pub record AreCounts (orders : List Order) (counts : List ℕ) : Type 0 where
  pub size : length counts ≡ length orders
  pub stops : (place other : ℕ) (order : Order) → slice_get orders place ≡ Some order → other < get_or counts place 0 → StopsAt orders counts order other
  pub spares : SparesCycles orders counts
