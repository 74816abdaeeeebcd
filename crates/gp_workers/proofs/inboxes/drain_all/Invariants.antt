use Rattle.std.proofs.Common.{◌≡◌, ℕ, ◌<◌, ◌≤◌, Some}
use Rattle.std.specs.List.{slice_get}
use Rattle.crossbeam_queue.specs.Passes.{Pass}
use Rattle.gp_derivation.specs.declared.exchange.SharedClause.{SharedClause}
use Rattle.gp_inbox.specs.declared.rule.View.{View}
use Rattle.gp_workers.specs.Inboxes.{DrainsAt, IsOfEach}
use Rattle.gp_workers.proofs.inboxes.drain_all.Given as goal

abbrev pub invariant-loop-place : goal.invariant-loop-place
invariant-loop-place g l = record {
  own : IsOfEach l.inboxes l.passes.items;
  early : (other : ℕ) (pass : Pass SharedClause View) → other < l.place → slice_get l.passes.items other ≡ Some pass → DrainsAt l.fn.passes.items other pass;
  late : (other : ℕ) → l.place ≤ other → slice_get l.passes.items other ≡ slice_get l.fn.passes.items other;
}
