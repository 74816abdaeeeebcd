-- One link more.
use Rattle.std.proofs.Common.{subst}
use Rattle.gp_stuck.specs.Closing.{IsCloser, closer_of}
use Rattle.gp_stuck.proofs.Ways.{each_all, each_more}
use Rattle.gp_stuck.proofs.closing.closers_of.Goals as goal

pub loop-link-preserved : goal.loop-link-preserved
loop-link-preserved c =
    each_more (IsCloser c.args.first c.args.held.now c.add_closer.new.closers) c.args.links.now c.loop-link.link-index c.link-item.result c.loop-link-test.true
    (λ link among above waits. c.in_ok-add_closer.ensures.kept link.held (closer_of link) (c.loop-link.invariant link among above waits))
    (subst (IsCloser c.args.first c.args.held.now c.add_closer.new.closers) c.link-item.is c.in_ok-add_closer.ensures.added)

pub returns : goal.returns
returns c = each_all (IsCloser c.args.first c.args.held.now c.loop-link.closers) c.args.links.now c.loop-link.link-index c.loop-link-test.false c.loop-link.invariant
