-- The table tells it of the window.
use Rattle.std.proofs.Common.{◌≡◌, ◌∙◌, ap, subst}
use Rattle.gp_window.specs.WindowForm.{WindowForm}
use Rattle.gp_story.specs.Shared.{is_accessed_beside}
use Rattle.gp_story.specs.Touched.{is_beside}
use Rattle.gp_story.proofs.sharing.Sharing.is_accessed_beside.Goals as goal

pub returns : goal.returns
returns c =
    subst (λ (w : WindowForm). c.is_beside.result ≡ is_accessed_beside w c.args.variable.now c.args.thread) c.self.view_is
    (c.is_beside.ensures ∙ ap (is_beside c.args.thread) c.get.ensures ∙ c.self.invariant.accessed c.args.variable.now c.args.thread)
