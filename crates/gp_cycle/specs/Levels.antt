-- Orders by how many further ones the shortest chain from them to a goal has.
use Rattle.std.specs.Prelude.{◌-◌, ◌==◌, Bool, false, not, List, [], ◌∷◌, ◌++◌, Option, None, Some, if◌then◌else◌, filter, find, length, option_and_then, slice_get}
use Rattle.std.specs.List.{list_any}
use Rattle.std.specs.Option.{option_map}
use Rattle.gp_cycle.specs.declared.levels.Levels.{Levels}
use Rattle.gp_cycle.specs.declared.order.Order.{Order}
use Rattle.gp_cycle.specs.Cycle.{leads}

-- whether an order leads to one of a level, or where there is no level to the goal
abbrev pub leads_into : Order → Option (List Order) → Order → Bool
leads_into goal None order = leads order goal
leads_into goal (Some level) order = list_any (leads order) level

-- whether an order leads to one of the farthest level
abbrev pub is_next : Levels → Order → Bool
is_next levels order = leads_into levels.goal (slice_get levels.levels (length levels.levels - 1)) order

-- no level yet, and all orders are left
abbrev pub first_levels : List Order → Order → Levels
first_levels orders goal = record { goal = goal; levels = []; rest = orders }

-- with one level more: those that are left and lead to one of the farthest
abbrev pub with_level : Levels → Levels
with_level levels = record {
  goal = levels.goal;
  levels = levels.levels ++ filter (is_next levels) levels.rest ∷ [];
  rest = filter (λ order. not (is_next levels order)) levels.rest;
}

-- whether the farthest level is empty
abbrev pub is_over : Option (List Order) → Bool
is_over None = false
is_over (Some level) = length level == 0

-- the chain from an order to a goal by the first of each level to which the one before leads
abbrev pub chain_through : Order → List (List Order) → Order → Option (List Order)
chain_through goal [] last = if leads last goal then Some [] else None
chain_through goal (level ∷ nearer) last =
    option_and_then (λ next. option_map (λ rest. next ∷ rest) (chain_through goal nearer next)) (find (leads last) level)
