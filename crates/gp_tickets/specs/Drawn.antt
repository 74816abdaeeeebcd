-- What was made of numbers that were drawn.
use Rattle.std.specs.Prelude.{ℕ, ◌≡◌, List, map, IsPermutation}
use Rattle.std.specs.List.{range_with_len}
use Rattle.gp_tickets.specs.declared.drawn.Drawn.{Drawn}
use Rattle.gp_tickets.specs.declared.drawn.Made.{Made}
use Rattle.gp_tickets.specs.declared.tickets.Tickets.{Tickets}
use Rattle.gp_tickets.specs.Hand.{WasTold}
use Rattle.gp_tickets.specs.Tickets.{hand_of, IsDrawerOf}

-- the numbers of what was made
abbrev pub numbers_of : {T : Type 0} → List (Made T) → List ℕ
numbers_of {T} made = map (λ (one : Made T). one.number) made

-- how many drawers drew
abbrev pub drawers_of : {T : Type 0} → Drawn T → ℕ
drawers_of drawn = (hand_of drawn.drawer).drawers

-- the drawers drew, each until it was told that no number is left, and the numbers of what was made are those that were drawn,
-- in order
pub record HasDrawn {T : Type 0} (tickets : Tickets) (drawn : Drawn T) : Type 0 where
  pub own : IsDrawerOf tickets drawn.drawer
  pub told : WasTold (hand_of drawn.drawer)
  pub numbers : numbers_of drawn.made.items ≡ (hand_of drawn.drawer).drawn

-- values are what was made of each number below a count, in the order of the numbers
pub record AreInOrder {T : Type 0} (count : ℕ) (made : List (Made T)) (values : List T) : Type 0 where
  pub sorted : List (Made T)
  pub moved : IsPermutation made sorted
  pub numbers : numbers_of sorted ≡ range_with_len 0 count
  pub are : values ≡ map (λ (one : Made T). one.value) sorted
