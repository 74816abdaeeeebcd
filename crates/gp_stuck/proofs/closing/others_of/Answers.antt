-- One thread more.
use Rattle.std.proofs.Common.{◌≡◌, true}
use Rattle.gp_stuck.specs.declared.link.Closer.{Closer}
use Rattle.gp_stuck.specs.Closing.{has_other, is_behind}
use Rattle.gp_stuck.proofs.Ways.{each_more}
use Rattle.gp_stuck.proofs.closing.others_of.Goals as goal

pub loop-closer-preserved : goal.loop-closer-preserved
loop-closer-preserved c =
    each_more (λ (closer : Closer). is_behind c.args.link.now closer ≡ true → has_other c.with_other-others.result closer.thread ≡ true) c.args.closers.now c.loop-closer.closer-index _ c.loop-closer-test.true
    (λ closer among behind. c.with_other-others.ensures.kept closer.thread (c.loop-closer.invariant closer among behind))
    c.with_other-others.ensures.added
