-- One link more.
use Rattle.std.proofs.Common.{subst}
use Rattle.gp_stuck.specs.Closing.{IsStep}
use Rattle.gp_stuck.proofs.Ways.{each_all, each_more}
use Rattle.gp_stuck.proofs.closing.steps_of.Goals as goal

pub loop-link-preserved : goal.loop-link-preserved
loop-link-preserved c =
    each_more (IsStep c.args.first c.args.closers.now c.add_step.new.steps) c.args.links.now c.loop-link.link-index c.link-item.result c.loop-link-test.true
    (λ link among above closer there behind.
    let step = c.loop-link.invariant link among above closer there behind in
    (step.0, c.in_ok-add_step.ensures.kept link.held (record { thread = link.thread; mode = link.mode; others = step.0 }) step.1, step.2))
    (subst (IsStep c.args.first c.args.closers.now c.add_step.new.steps) c.link-item.is c.in_ok-add_step.ensures.added)

pub returns : goal.returns
returns c = each_all (IsStep c.args.first c.args.closers.now c.loop-link.steps) c.args.links.now c.loop-link.link-index c.loop-link-test.false c.loop-link.invariant
