use Rattle.std.proofs.Common.{◌≡◌, length}
use Rattle.gp_workers.specs.Inboxes.{AreColumns}
use Rattle.gp_workers.proofs.inboxes.open_inboxes.Given as goal

abbrev pub invariant-loop-taker : goal.invariant-loop-taker
invariant-loop-taker l = record {
  len : length l.inboxes.items ≡ l.taker;
  columns : AreColumns l.problem l.workers l.inboxes.items l.columns.items;
}
