-- One event more, and at the end all.
use Rattle.std.proofs.Common.{subst}
use Rattle.std.specs.Prelude.{Contains}
use Rattle.gp_window.specs.declared.schedule.EventId.{EventId}
use Rattle.gp_window.specs.WindowForm.{WindowForm}
use Rattle.gp_stuck.specs.declared.link.Link.{Link}
use Rattle.gp_stuck.specs.Links.{IsHolding, IsLink}
use Rattle.gp_stuck.proofs.Ways.{each_all, each_more}
use Rattle.gp_stuck.proofs.links.link_all.Goals as goal

pub loop-id-preserved : goal.loop-id-preserved
loop-id-preserved c = record {
  holding = subst (λ (w : WindowForm). IsHolding w c.go_to.new.holding) c.window-window.ensures c.in_ok-go_to.ensures.holding;
  linked = λ link id among is.
      each_more (λ (one : EventId). (link : Link) → IsLink c.args.waiting.now link one → Contains c.link_event.new.links link) c.starts-id-items.result.now c.loop-id.id-index (record { thread = 0; index = 0 }) c.loop-id-test.true
      (λ one old way waits. c.in_ok-link_event.ensures.kept way (c.loop-id.invariant.linked way one old waits))
      (subst (λ (one : EventId). (link : Link) → IsLink c.args.waiting.now link one → Contains c.link_event.new.links link) c.in_ok-go_to.ensures.there
      (subst (λ (w : WindowForm). (link : Link) → IsLink w link c.go_to.new.holding.id → Contains c.link_event.new.links link) c.window-window.ensures c.in_ok-link_event.ensures.linked))
      id among link is;
}

pub returns : goal.returns
returns c = λ few link id among is.
    each_all (λ (one : EventId). (link : Link) → IsLink c.args.waiting.now link one → Contains c.loop-id.links link) c.starts-id-items.result.now c.loop-id.id-index c.loop-id-test.false
    (λ one old way waits. c.loop-id.invariant.linked way one old waits)
    id (c.starts-id-items.ensures.all id link.held link.mode among is.may is.holds) link is
