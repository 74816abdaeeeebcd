-- The first pass holds the numbers that were not handed over yet.
use Rattle.std.proofs.Common.{◌≡◌, All, drop, map, Some, take, true}
use Rattle.crossbeam_queue.specs.Passes.{IsPassOf, view}
use Rattle.gp_inbox.specs.Passes.{IsOf}
use Rattle.gp_inbox.specs.Views.{sender_view, unused}
use Rattle.gp_inbox.proofs.inbox.Inbox.cut.Given as goal

abbrev pub invariant-senders : goal.invariant-senders
invariant-senders l = record {
  queue : IsPassOf l.self.queue l.pass;
  knows : view l.pass ≡ unused (Some l._base) l.senders (drop l.counter l.senders) true;
  own : All (IsOf l.self) l.passes.items;
  handed : map view l.passes.items ≡ map (sender_view l._base l.senders) (take l.counter l.senders);
}
