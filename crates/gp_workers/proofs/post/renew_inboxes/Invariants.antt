use Rattle.std.proofs.Common.{◌≡◌, ℕ, ◌+◌, length, take}
use Rattle.std.specs.List.{slice_get}
use Rattle.gp_workers.specs.Inboxes.{AreColumns}
use Rattle.gp_workers.proofs.post.renew_inboxes.Given as goal

abbrev pub invariant-loop-taker : goal.invariant-loop-taker
invariant-loop-taker l = record {
  enough : length l.left.items + l.taker ≡ l.workers;
  left : (place : ℕ) → slice_get l.left.items place ≡ slice_get l.fn.passes.items (l.taker + place);
  columns : AreColumns l.problem l.workers (take l.taker l.inboxes) l.columns.items;
}
