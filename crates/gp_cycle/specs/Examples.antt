-- What small lists of clauses force, and cycles of a few orders.
use Rattle.std.specs.Prelude.{◌≡◌, ℕ, true, false, [], ◌∷◌, None, Some}
use Rattle.gp_clause.specs.declared.lit.Lit.{Lit}
use Rattle.gp_window.specs.declared.schedule.EventId.{EventId}
use Rattle.gp_cycle.specs.declared.order.Order.{Order}
use Rattle.gp_cycle.specs.Cycle.{cycle_events, cycle_of}
use Rattle.gp_cycle.specs.Forced.{forced}

-- a literal of a variable, and its negation
abbrev so : ℕ → Lit
so variable = record { variable = variable; positive = true }

abbrev not_so : ℕ → Lit
not_so variable = record { variable = variable; positive = false }

abbrev at : ℕ → ℕ → EventId
at thread index = record { thread = thread; index = index }

abbrev before : EventId → EventId → Order
before one other = record { one = one; other = other }

pub record ExamplesHold : Type 0 where
  -- the second clause waits for what the first forces, and the third for the second sweep; two that are open force nothing
  pub in_turn : forced (so 1 ∷ []) ((not_so 3 ∷ so 4 ∷ []) ∷ (not_so 1 ∷ so 2 ∷ []) ∷ (not_so 2 ∷ so 3 ∷ []) ∷ (so 5 ∷ so 6 ∷ []) ∷ [])
      ≡ Some (so 1 ∷ so 2 ∷ so 3 ∷ so 4 ∷ [])
  -- a literal that stands twice in a clause is one
  pub twice : forced (so 1 ∷ []) ((not_so 1 ∷ so 2 ∷ so 2 ∷ []) ∷ []) ≡ Some (so 1 ∷ so 2 ∷ [])
  -- a clause whose literals are all negated by what is known
  pub none_open : forced (so 1 ∷ []) ((not_so 1 ∷ so 2 ∷ []) ∷ (not_so 2 ∷ not_so 1 ∷ []) ∷ []) ≡ None
  -- the first order leads nowhere, the second back to itself by two more, and the third is no nearer way
  pub shortest_way : cycle_of (before (at 1 0) (at 3 9) ∷ before (at 1 4) (at 2 1) ∷ before (at 2 6) (at 3 1) ∷ before (at 2 1) (at 1 9) ∷ before (at 3 1) (at 1 3) ∷ [])
      ≡ Some (before (at 1 4) (at 2 1) ∷ before (at 2 6) (at 3 1) ∷ before (at 3 1) (at 1 3) ∷ [])
  -- an event that ends one order and begins the next is told once
  pub events : cycle_events (before (at 1 4) (at 2 1) ∷ before (at 2 6) (at 3 1) ∷ before (at 3 1) (at 1 3) ∷ []) ≡ at 1 4 ∷ at 2 1 ∷ at 2 6 ∷ at 3 1 ∷ at 1 3 ∷ []
  pub round : cycle_events (before (at 1 4) (at 2 1) ∷ before (at 2 1) (at 1 4) ∷ []) ≡ at 2 1 ∷ at 1 4 ∷ []
  -- orders that do not lead round
  pub no_way : cycle_of (before (at 1 4) (at 2 1) ∷ before (at 2 1) (at 1 5) ∷ []) ≡ None
