-- Which drawer belongs to which tickets, and what it knows.
use Rattle.std.specs.Prelude.{ℕ, ◌≡◌}
use Rattle.gp_tickets.specs.declared.hand.Hand.{Hand}
use Rattle.gp_tickets.specs.declared.tickets.Drawer.{Drawer}
use Rattle.gp_tickets.specs.declared.tickets.Tickets.{Tickets}
use Rattle.gp_tickets.specs.Hand.{unused}

-- what a drawer knows
abbrev pub hand_of : Drawer → Hand
hand_of drawer = drawer.seat.me.0

-- the drawer draws these tickets
pub record IsDrawerOf (tickets : Tickets) (drawer : Drawer) : Type 0 where
  pub table : drawer.seat.table_id ≡ tickets.table.shared.table_id
  pub same_count : (hand_of drawer).count ≡ tickets.count
  pub same_crew : (hand_of drawer).crew ≡ tickets.crew

-- a drawer of these tickets before its first draw
abbrev pub IsUnused : Tickets → Drawer → Type 0
IsUnused tickets drawer = IsDrawerOf tickets drawer × (hand_of drawer ≡ unused tickets.count tickets.crew 1)

-- a single drawer of these tickets, which was told so many times that none is left
pub record IsSingle (tickets : Tickets) (nones : ℕ) (drawer : Drawer) : Type 0 where
  pub own : IsDrawerOf tickets drawer
  pub one : (hand_of drawer).drawers ≡ 1
  pub told : (hand_of drawer).nones ≡ nones
