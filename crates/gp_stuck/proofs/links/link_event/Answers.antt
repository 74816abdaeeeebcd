-- The links of an event that takes a lock.
use Rattle.std.proofs.Common.{◌≡◌, ◌∙◌, ap, subst, sym}
use Rattle.std.specs.Prelude.{Option, Some, Contains}
use Rattle.std.proofs.lemmas.Result.{on_ok_weaker}
use Rattle.gp_trace.specs.declared.lock_use.LockUse.{LockUse}
use Rattle.gp_trace.specs.declared.lock_use.LockUse.TheVariants.{Take}
use Rattle.gp_replay.specs.LockUses.{use_at}
use Rattle.gp_stuck.proofs.Ways.{link_is}
use Rattle.gp_stuck.proofs.links.link_event.Goals as goal

pub returns-in-Take-clause-linked : goal.returns-in-Take-clause-linked
returns-in-Take-clause-linked c =
    let uses : ◌≡◌ {A = Option LockUse} (use_at c.args.window.now c.args.holding.now.id) (Some (Take c.in-Take.wanted c.in-Take.lock)) =
    sym c.use_at.ensures ∙ c.in-Some.is ∙ ap Some c.in-Take.is in
    on_ok_weaker c.link_held.result (λ linked link is.
    subst (Contains c.link_held.new.links) (link_is link c.args.holding.now.id.thread c.in-Take.lock c.in-Take.wanted is.thread (sym is.takes ∙ uses))
    (linked link.held link.mode (c.requires link.held ∙ is.holds))) c.link_held.ensures.linked
