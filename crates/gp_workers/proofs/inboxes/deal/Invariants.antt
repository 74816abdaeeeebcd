use Rattle.std.proofs.Common.{◌≡◌, ℕ, ◌<◌, ◌≤◌, Some, length, vec_len}
use Rattle.std.specs.Global.{Vec}
use Rattle.std.specs.List.{slice_get}
use Rattle.crossbeam_queue.specs.Passes.{Pass}
use Rattle.gp_derivation.specs.declared.exchange.SharedClause.{SharedClause}
use Rattle.gp_inbox.specs.declared.rule.View.{View}
use Rattle.gp_workers.specs.Inboxes.{IsDealt}
use Rattle.gp_workers.proofs.inboxes.deal.Given as goal

abbrev pub decreases-loop-pass : goal.decreases-loop-pass
decreases-loop-pass l = vec_len l.row

abbrev pub invariant-loop-pass : goal.invariant-loop-pass
invariant-loop-pass l = record {
  len : length l.columns.items ≡ length l.fn.columns.items;
  few : length l.row.items ≤ length l.fn.columns.items;
  left : (other : ℕ) → other < length l.row.items → slice_get l.row.items other ≡ slice_get l.fn.row.items other;
  early : (other : ℕ) → other < length l.row.items → slice_get l.columns.items other ≡ slice_get l.fn.columns.items other;
  late : (other : ℕ) (column : Vec (Pass SharedClause View)) → length l.row.items ≤ other → slice_get l.columns.items other ≡ Some column → IsDealt l.fn.columns.items l.fn.row.items other column;
}
