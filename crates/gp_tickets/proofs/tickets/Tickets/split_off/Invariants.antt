use Rattle.std.proofs.Common.{◌≡◌, ◌-◌, length, [], All}
use Rattle.gp_tickets.specs.Tickets.{IsUnused}
use Rattle.gp_tickets.specs.Hand.{unused}
use Rattle.gp_tickets.proofs.tickets.Tickets.split_off.Given as goal

abbrev pub invariant-parts : goal.invariant-parts
invariant-parts l = record {
  same : l.seat.table_id ≡ l.self.table.shared.table_id;
  seat : l.seat.me ≡ (unused l.self.count l.self.crew (l.self.crew - l.counter), []);
  len : length l.all.items ≡ l.counter;
  unused : All (IsUnused l.self) l.all.items;
}
