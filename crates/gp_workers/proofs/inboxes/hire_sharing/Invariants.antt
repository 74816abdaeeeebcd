use Rattle.std.proofs.Common.{◌≡◌, ℕ, ◌+◌, All, length, vec_len}
use Rattle.std.specs.List.{slice_get}
use Rattle.gp_tickets.specs.Tickets.{IsUnused}
use Rattle.gp_workers.proofs.InboxColumns.{AreOfFirst}
use Rattle.gp_workers.proofs.inboxes.hire_sharing.Given as goal

abbrev pub decreases-loop-drawer : goal.decreases-loop-drawer
decreases-loop-drawer l = vec_len l.drawers

abbrev pub invariant-loop-drawer : goal.invariant-loop-drawer
invariant-loop-drawer l = record {
  unused : All (IsUnused l.tickets) l.drawers.items;
  counted : length l.drawers.items + length l.jobs.items ≡ l.workers;
  enough : length l.columns.items + length l.jobs.items ≡ l.workers;
  left : (place : ℕ) → slice_get l.columns.items place ≡ slice_get l.fn.columns.items (length l.jobs.items + place);
  jobs : AreOfFirst l.tickets l.workers l.fn.columns.items l.jobs.items;
}
