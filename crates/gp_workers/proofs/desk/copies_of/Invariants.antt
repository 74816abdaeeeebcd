use Rattle.std.proofs.Common.{◌≡◌, All, length}
use Rattle.gp_workers.specs.Desk.{IsCopyOf}
use Rattle.gp_workers.proofs.desk.copies_of.Given as goal

abbrev pub invariant-loop : goal.invariant-loop
invariant-loop l = record {
  len : length l.copies.items ≡ l.counter;
  copies : All (IsCopyOf l.shared) l.copies.items;
}
