use Rattle.gp_writer.specs.Steps.{step_lines}
use Rattle.gp_writer.specs.LinesLaws.{one_more}
use Rattle.gp_writer.proofs.steps.put_each_step.Goals as goal

pub loop-step-preserved : goal.loop-step-preserved
loop-step-preserved c =
    rw c.in_ok-put_step.ensures
    (one_more step_lines c.loop-step.text.items _ c.args.steps.now c.step-item.result c.loop-step.step-index c.loop-step-test.true c.step-item.is c.loop-step.invariant)
