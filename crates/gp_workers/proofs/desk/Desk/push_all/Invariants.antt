use Rattle.std.proofs.Common.{◌≡◌, ◌+◌, ◌≤◌, ◌<◌, All, length}
use Rattle.gp_workers.specs.Desk.{IsLastOffer, PushesBelow, taken_of, SameWorker}
use Rattle.gp_workers.proofs.desk.Desk.push_all.Given as goal

abbrev pub invariant-loop-taker : goal.invariant-loop-taker
invariant-loop-taker g l = record {
  same : SameWorker l.fn.self l.self;
  outgoing : l.self.outgoing ≡ l.fn.self.outgoing;
  empty : l.self.empty ≡ l.fn.self.empty;
  taken : taken_of l.self ≡ taken_of l.fn.self;
  below : PushesBelow l.taker l.self;
  early : l.taker ≤ l.fn.self.place → length l.copies.items + l.taker + 1 ≡ length l.fn.self.inboxes.now;
  late : l.fn.self.place < l.taker → length l.copies.items + l.taker ≡ length l.fn.self.inboxes.now;
  copies : All (IsLastOffer l.fn.self) l.copies.items;
}
