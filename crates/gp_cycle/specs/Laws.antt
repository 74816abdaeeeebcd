-- What is true of what clauses force, and of cycles.
use Rattle.std.specs.Prelude.{◌≡◌, ◌<◌, ◌↔◌, ◌⊎◌, true, List, [], ◌∷◌, None, Some, All, Contains}
use Rattle.gp_clause.specs.declared.lit.Lit.{Lit}
use Rattle.gp_clause.specs.Closure.{Conflicts, Derived}
use Rattle.gp_window.specs.declared.schedule.EventId.{EventId}
use Rattle.gp_cycle.specs.declared.order.Order.{Order}
use Rattle.gp_cycle.specs.Cycle.{cycle_events, cycle_of, leads}
use Rattle.gp_cycle.specs.Forced.{forced}

-- what is forced is just what unit clauses derive, and nothing is told just where they make a clause false
pub record ForcedIsDerived : Type 0 where
  pub derived : (start : List Lit) (clauses : List (List Lit)) (lits : List Lit) → forced start clauses ≡ Some lits
      → (lit : Lit) → Contains lits lit ↔ Derived start clauses lit
  pub conflicts : (start : List Lit) (clauses : List (List Lit)) → (forced start clauses ≡ None) ↔ Conflicts start clauses

-- an order leads to the first of some, each to the next, and the last one to a goal
abbrev pub LeadsOn : Order → List Order → Order → Type 0
LeadsOn last [] goal = leads last goal ≡ true
LeadsOn last (next ∷ rest) goal = (leads last next ≡ true) × LeadsOn next rest goal

-- some of the orders lead round: each to the next, and the last one to the first
abbrev pub IsCycle : List Order → List Order → Type 0
IsCycle orders [] = ⊥
IsCycle orders (order ∷ rest) = All (Contains orders) (order ∷ rest) × LeadsOn order rest order

-- a cycle that is told is one
abbrev pub CyclesAreCycles : Type 0
CyclesAreCycles = (orders cycle : List Order) → cycle_of orders ≡ Some cycle → IsCycle orders cycle

-- where none is told there is none
abbrev pub CyclesAreFound : Type 0
CyclesAreFound = (orders cycle : List Order) → cycle_of orders ≡ None → IsCycle orders cycle → ⊥

-- an event is before another in the same thread, or one of the orders says that it is before it
abbrev pub IsBefore : List Order → EventId → EventId → Type 0
IsBefore orders one other = ((one.thread ≡ other.thread) × (one.index < other.index)) ⊎ Contains orders (record { one = one; other = other })

-- each of some events stands so to the next, and the last one to a goal
abbrev pub AreLinked : (EventId → EventId → Type 0) → EventId → List EventId → EventId → Type 0
AreLinked Is event [] goal = Is event goal
AreLinked Is event (next ∷ events) goal = Is event next × AreLinked Is next events goal

-- each of some events stands so to the next, and the last one to the first
abbrev pub GoRound : (EventId → EventId → Type 0) → List EventId → Type 0
GoRound Is [] = ⊥
GoRound Is (event ∷ events) = AreLinked Is event events event

-- each event of a cycle is before the next, and the last one before the first
abbrev pub CycleEventsGoRound : Type 0
CycleEventsGoRound = (orders cycle : List Order) → IsCycle orders cycle → GoRound (IsBefore orders) (cycle_events cycle)
