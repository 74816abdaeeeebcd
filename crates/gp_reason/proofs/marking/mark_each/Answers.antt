use Rattle.gp_reason.proofs.Marked.{no_hint, one_hint}
use Rattle.gp_reason.proofs.marking.mark_each.Goals as goal

pub returns : goal.returns
returns c = λ other.
    no_hint c.loop-hint.marks c.args.marks.now c.args.hints.now c.loop-hint.hint-index c.args.number other c.loop-hint-test.false (c.loop-hint.invariant other)

pub loop-hint-preserved : goal.loop-hint-preserved
loop-hint-preserved c = λ other.
    one_hint c.loop-hint.marks c.mark.new.marks c.args.marks.now c.args.hints.now c.loop-hint.hint-index c.args.number other c.loop-hint-test.true (c.mark.ensures other)
    (c.loop-hint.invariant other)
