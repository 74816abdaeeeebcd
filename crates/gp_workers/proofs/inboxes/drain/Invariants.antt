use Rattle.std.proofs.Common.{◌≡◌, true}
use Rattle.crossbeam_queue.specs.Passes.{view}
use Rattle.gp_inbox.specs.Passes.{IsOf}
use Rattle.gp_workers.proofs.InboxJoins.{TookMore}
use Rattle.gp_workers.proofs.inboxes.drain.Given as goal

abbrev pub invariant-loop : goal.invariant-loop
invariant-loop g l = record {
  own : IsOf l.inbox l.pass;
  taker : (view l.pass).takes ≡ true;
  more : TookMore (view l.fn.pass) (view l.pass);
}
