-- The users of the lock and the suspects follow the holdings.
use Rattle.std.proofs.Common.{◌∙◌, ap}
use Rattle.gp_window.specs.Users.{with_user}
use Rattle.gp_window.proofs.Suspects.{after_take}
use Rattle.gp_window.proofs.holders.Holders.take.Goals as goal

pub invariant_of-result : goal.invariant_of-result
invariant_of-result c =
    after_take _ _ _ _ _ _ c.args.lock c.args.thread c.args.mode _ c.self.invariant.0 c.self.invariant.1
    c.in_ok-put.ensures.ok (c.in_ok-more.ensures ∙ ap (with_user c.args.mode) c.users_at.ensures) c.in_ok-put-2.ensures.ok c.in_ok-suspect.ensures
