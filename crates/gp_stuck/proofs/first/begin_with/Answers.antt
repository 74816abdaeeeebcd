-- What is made for the event is known of it.
use Rattle.std.proofs.Common.{subst, sym}
use Rattle.std.specs.Prelude.{Contains}
use Rattle.gp_window.specs.declared.schedule.EventId.{EventId}
use Rattle.gp_window.specs.WindowForm.{WindowForm}
use Rattle.gp_stuck.specs.Closing.{HaveClosers, HaveSteps}
use Rattle.gp_stuck.specs.Links.{IsHolding}
use Rattle.gp_stuck.specs.Search.{takers_of}
use Rattle.gp_stuck.proofs.first.begin_with.Goals as goal

pub returns-clause-first : goal.returns-clause-first
returns-clause-first c = record {
  among = subst (Contains (takers_of c.args.waiting.now)) (sym c.in_ok-go_to.ensures.there) c.requires.among;
  holding = subst (λ (w : WindowForm). IsHolding w c.go_to.new.holding) c.window.ensures c.in_ok-go_to.ensures.holding;
  narrowed = λ narrows. record {
    holding = subst (λ (w : WindowForm). IsHolding w c.go_to.new.holding) c.window.ensures c.in_ok-go_to.ensures.holding;
    links = c.args.links.now;
    linked = c.requires.linked narrows;
    closers = subst (λ (id : EventId). HaveClosers id.thread c.go_to.new.holding.held c.args.links.now c.in_ok-closers.closers) (sym c.in_ok-go_to.ensures.there) c.in_ok-closers.ensures;
    steps = subst (λ (id : EventId). HaveSteps id.thread c.in_ok-closers.closers c.args.links.now c.in_ok-steps.steps) (sym c.in_ok-go_to.ensures.there) c.in_ok-steps.ensures;
  };
}
