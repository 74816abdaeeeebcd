use Rattle.std.proofs.Common.{length}
use Rattle.gp_workers.specs.Inboxes.{AreRows, IsOfEach}
use Rattle.gp_workers.proofs.InboxJoins.{JoinsSome}
use Rattle.gp_workers.proofs.inboxes.join_all.Given as goal

abbrev pub decreases-loop-row : goal.decreases-loop-row
decreases-loop-row l = length l.rows.items

abbrev pub invariant-loop-row : goal.invariant-loop-row
invariant-loop-row l = record {
  own : IsOfEach l.inboxes l.joined.items;
  rows : AreRows l.inboxes l.rows.items;
  joins : JoinsSome l.fn.rows.items l.joined.items l.rows.items;
}
