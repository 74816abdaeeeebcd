-- What contracts see of the watches.
use Rattle.std.specs.Prelude.{ℕ, ◌/◌, ◌%◌, ◌==◌, ◌^◌, ◌<◌, List}
use Rattle.gp_sat.specs.Slot.{Slot}
use Rattle.gp_sat.specs.declared.watches.Packed.{Packed}

-- the slot that eight bytes hold
abbrev pub opened : Packed → Slot
opened slot = record { lit = record { variable = slot.lit / 2; positive = slot.lit % 2 == 1 }; next = slot.next }

-- 32 bits number so many lists, and one more than each of so many slots
pub record FitNumbers (lists slots : ℕ) : Type 0 where
  pub lists_fit : lists < 2 ^ 32
  pub slots_fit : slots < 2 ^ 32

-- the heads of the lists, the slots, the count of clauses that were linked, the place of the trail that is looked at next,
-- the clauses of fewer than two literals and how many of them were looked at, and how many of each there is room for
pub record WatchesForm : Type 0 where
  pub heads : List ℕ
  pub slots : List Slot
  pub linked : ℕ
  pub cursor : ℕ
  pub shorts : List ℕ
  pub looked : ℕ
  pub heads_room : ℕ
  pub slots_room : ℕ
  pub shorts_room : ℕ
