-- Cycles of orders of events, and the events that lie on them.
use Rattle.std.specs.Prelude.{ℕ, zero, suc, Bool, ◌==◌, ◌&&◌, List, [], ◌∷◌, ◌++◌, Option, None, Some, if◌then◌else◌, length, nat_le}
use Rattle.std.specs.Option.{option_map, option_or}
use Rattle.gp_window.specs.declared.schedule.EventId.{EventId}
use Rattle.gp_window.specs.Ids.{is_same}
use Rattle.gp_cycle.specs.declared.order.Order.{Order}

-- whether an order leads to a next one: its later event is the earlier one of the next, or is before that in the same thread
abbrev pub leads : Order → Order → Bool
leads order next = order.other.thread == next.one.thread && nat_le order.other.index next.one.index

-- the first chain that goes on from an order: by the first of some orders to which it leads, and from which a chain is told
abbrev pub first_through : (Order → Option (List Order)) → Order → List Order → Option (List Order)
first_through chain_from last [] = None
first_through chain_from last (next ∷ orders) =
    option_or (if leads last next then option_map (λ rest. next ∷ rest) (chain_from next) else None) (first_through chain_from last orders)

-- the first chain of so many further orders from one to a goal, each of which leads to the next, and the last one to the goal
abbrev pub chain : List Order → ℕ → Order → Order → Option (List Order)
chain orders zero last goal = if leads last goal then Some [] else None
chain orders (suc more) last goal = first_through (λ next. chain orders more next goal) last orders

-- the shortest chain of those that have at least the second number of orders, and so many numbers more are tried
abbrev pub shortest : List Order → ℕ → ℕ → Order → Order → Option (List Order)
shortest orders zero count last goal = None
shortest orders (suc more) count last goal = option_or (chain orders count last goal) (shortest orders more (suc count) last goal)

-- a cycle through an order: the order, and the shortest chain from it back to itself
abbrev pub cycle_at : List Order → Order → Option (List Order)
cycle_at orders order = option_map (λ rest. order ∷ rest) (shortest orders (length orders) 0 order order)

-- the cycle through the first of some orders that has one
abbrev pub cycle_among : List Order → List Order → Option (List Order)
cycle_among orders [] = None
cycle_among orders (order ∷ rest) = option_or (cycle_at orders order) (cycle_among orders rest)

-- the cycle through the first order that has one
abbrev pub cycle_of : List Order → Option (List Order)
cycle_of orders = cycle_among orders orders

-- the events of an order behind an event, which is not told again
abbrev pub order_events : EventId → Order → List EventId
order_events before order = if is_same order.one before then order.other ∷ [] else order.one ∷ order.other ∷ []

-- the events of orders one after another, behind an event
abbrev pub events_behind : EventId → List Order → List EventId
events_behind before [] = []
events_behind before (order ∷ orders) = order_events before order ++ events_behind order.other orders

-- the later event of the last of some orders
abbrev pub last_event : Order → List Order → EventId
last_event order [] = order.other
last_event order (next ∷ orders) = last_event next orders

-- the events of a cycle, of which the last one counts as before the first
abbrev pub cycle_events : List Order → List EventId
cycle_events [] = []
cycle_events (order ∷ orders) = events_behind (last_event order orders) (order ∷ orders)
