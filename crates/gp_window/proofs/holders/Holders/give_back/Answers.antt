-- The users of the lock and the suspects follow the holdings.
use Rattle.std.proofs.Common.{◌∙◌, ap}
use Rattle.gp_window.specs.Users.{without_user}
use Rattle.gp_window.proofs.Suspects.{after_give_back}
use Rattle.gp_window.proofs.holders.Holders.give_back.Goals as goal

pub invariant_of-result : goal.invariant_of-result
invariant_of-result c =
    after_give_back _ _ _ _ _ _ c.args.lock c.args.thread _ _ c.self.invariant.0 c.self.invariant.1
    (c.copied-mode.ensures ∙ c.get.ensures) c.remove.ensures (c.without-fewer.ensures ∙ ap (without_user _) c.users_at.ensures) c.in_ok-put.ensures.ok c.in_ok-suspect.ensures
