use Rattle.gp_linked.proofs.Texts.{one_answer}
use Rattle.gp_linked.proofs.printing.put_answers.Goals as goal

pub loop-place-preserved : goal.loop-place-preserved
loop-place-preserved c =
    rw c.in_ok-put_answer.ensures
    (one_answer c.loop-place.text.items _ c.args.links.now c.index-links-place.result c.loop-place.place c.loop-place-test.true c.index-links-place.is c.loop-place.invariant)
