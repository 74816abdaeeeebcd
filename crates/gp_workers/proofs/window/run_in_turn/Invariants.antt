use Rattle.std.proofs.Common.{◌≡◌, ◌+◌, length}
use Rattle.std.specs.Vec.Iter.{into_iter_items, into_iter_len}
use Rattle.gp_workers.specs.SharedCrew.{AreHandedBack}
use Rattle.gp_workers.proofs.CrewJobs.{AreLeft}
use Rattle.gp_workers.proofs.window.run_in_turn.Given as goal

abbrev pub invariant-loop-sharing : goal.invariant-loop-sharing
invariant-loop-sharing g l = record {
  counted : into_iter_len l.sharing-iterator ≡ length (into_iter_items l.sharing-iterator);
  in_all : length l.crew.items + length (into_iter_items l.sharing-iterator) ≡ length l.inboxes;
  left : AreLeft l.load.tickets.now l.load.problem.now l.inboxes (length l.crew.items) (into_iter_items l.sharing-iterator);
  back : AreHandedBack l.load.tickets.now l.load.problem.now l.load.queries.now l.load.budget l.inboxes 0 l.crew.items;
}
