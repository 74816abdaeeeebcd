-- All that the thread holds was put in.
use Rattle.std.proofs.Common.{◌≡◌, ◌∙◌, ap, []}
use Rattle.gp_trace.specs.LockUse.{HeldLocks, mode_held}
use Rattle.gp_window.specs.Holders.{Holdings}
use Rattle.gp_stuck.specs.Noted.{with_all_own}
use Rattle.gp_stuck.proofs.OwnHeld.{own_told}
use Rattle.gp_stuck.proofs.noting.held_at_start.Goals as goal

pub returns-in-Ok : goal.returns-in-Ok
returns-in-Ok c =
    let holdings : Holdings = c.held.result.now in
    let is : c.put_all_own.new.held ≡ with_all_own c.args.thread [] holdings =
    c.in-Ok.ensures ∙ ap (λ (held : HeldLocks). with_all_own c.args.thread held holdings) c.new-held.ensures in
    λ lock. ap (λ (locks : HeldLocks). mode_held locks lock) is ∙ own_told c.args.window.now c.requires holdings c.held.ensures.holders c.held.ensures.readers c.args.thread lock
