-- One drawer after another gets the next number and the next passes.
use Rattle.std.proofs.Common.{◌≡◌, ◌∙◌, ap, ◌+◌, List, ◌∷◌, Some, length, arith, rules}
use Rattle.std.specs.Global.{Vec}
use Rattle.std.proofs.lemmas.List.{length_push}
use Rattle.std.proofs.lemmas.List.Elements.{All-pop}
use Rattle.crossbeam_queue.specs.Passes.{Pass}
use Rattle.gp_derivation.specs.declared.exchange.SharedClause.{SharedClause}
use Rattle.gp_inbox.specs.declared.rule.View.{View}
use Rattle.gp_workers.specs.declared.crew.SharingJob.{SharingJob}
use Rattle.gp_tickets.specs.declared.tickets.Drawer.{Drawer}
use Rattle.gp_tickets.specs.Tickets.{IsUnused}
use Rattle.gp_workers.proofs.InboxColumns.{hired_more, next_column}
use Rattle.gp_workers.proofs.inboxes.hire_sharing.Goals as goal

pub loop-drawer-preserved : goal.loop-drawer-preserved
loop-drawer-preserved c =
    let tickets = c.in_ok-tickets.tickets in
    let invariant = c.loop-drawer.invariant in
    let jobs = c.loop-drawer.jobs.items in
    let popped = All-pop (IsUnused tickets) c.loop-drawer.drawers.items c.pop.new.self.items (Some c.in-Some.drawer) c.in-Some.ensures.items invariant.unused in
    let number : c.len.result + 1 ≡ length jobs + 1 = search rules in
    let longer : length c.push.new.self.items ≡ length jobs + 1 = ap (λ (all : List SharingJob). length all) c.in_ok-push.ensures.items ∙ length_push jobs _ in
    let fewer : length c.loop-drawer.drawers.items ≡ length c.pop.new.self.items + 1 = ap (λ (all : List Drawer). length all) c.in-Some.ensures.items ∙ length_push c.pop.new.self.items c.in-Some.drawer in
    let shorter : length c.loop-drawer.columns.items ≡ length c.pop_front.new.self.items + 1 =
    ap (λ (all : List (Vec (Pass SharedClause View))). length all) c.in-Some-pop_front.ensures.items ∙ (let one : length (c.in-Some-pop_front.passes ∷ c.pop_front.new.self.items) ≡ length c.pop_front.new.self.items + 1 = omega arith in one) in
    let next = next_column c.args.columns.items c.loop-drawer.columns.items c.pop_front.new.self.items (length jobs) c.in-Some-pop_front.passes c.in-Some-pop_front.ensures.items invariant.left in
    record {
      unused = popped.0;
      counted = omega (arith, longer, fewer, invariant.counted);
      enough = omega (arith, longer, shorter, invariant.enough);
      left = λ place. next.1 (length c.push.new.self.items) place longer;
      jobs = hired_more tickets c.args.workers c.args.columns.items jobs c.push.new.self.items _ invariant.jobs c.in_ok-push.ensures.items (number, popped.1) next.0;
    }
