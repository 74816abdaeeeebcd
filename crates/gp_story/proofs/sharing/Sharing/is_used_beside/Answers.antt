-- The table tells it of the window.
use Rattle.std.proofs.Common.{◌≡◌, ◌∙◌, ap, subst}
use Rattle.gp_window.specs.WindowForm.{WindowForm}
use Rattle.gp_story.specs.Shared.{is_used_beside}
use Rattle.gp_story.specs.Touched.{is_beside}
use Rattle.gp_story.proofs.sharing.Sharing.is_used_beside.Goals as goal

pub returns : goal.returns
returns c =
    subst (λ (w : WindowForm). c.is_beside.result ≡ is_used_beside w c.args.lock.now c.args.thread) c.self.view_is
    (c.is_beside.ensures ∙ ap (is_beside c.args.thread) c.get.ensures ∙ c.self.invariant.used c.args.lock.now c.args.thread)
