use Rattle.std.proofs.Common.{◌≡◌, ℕ, ◌<◌, ◌≤◌, Some, length, vec_len}
use Rattle.std.specs.List.{slice_get}
use Rattle.crossbeam_queue.specs.Passes.{Pass}
use Rattle.gp_derivation.specs.declared.exchange.SharedClause.{SharedClause}
use Rattle.gp_inbox.specs.declared.rule.View.{View}
use Rattle.gp_workers.specs.Inboxes.{IsOfEach}
use Rattle.gp_workers.specs.SharedCrew.{JoinsAt}
use Rattle.gp_workers.proofs.inboxes.join_row.Given as goal

abbrev pub decreases-loop-pass : goal.decreases-loop-pass
decreases-loop-pass l = vec_len l.row

abbrev pub invariant-loop-pass : goal.invariant-loop-pass
invariant-loop-pass l = record {
  own : IsOfEach l.inboxes l.joined.items;
  few : length l.row.items ≤ length l.inboxes;
  left : (other : ℕ) → other < length l.row.items → slice_get l.row.items other ≡ slice_get l.fn.row.items other;
  early : (other : ℕ) → other < length l.row.items → slice_get l.joined.items other ≡ slice_get l.fn.joined.items other;
  late : (other : ℕ) (pass : Pass SharedClause View) → length l.row.items ≤ other → slice_get l.joined.items other ≡ Some pass → JoinsAt l.fn.joined.items l.fn.row.items other pass;
}
