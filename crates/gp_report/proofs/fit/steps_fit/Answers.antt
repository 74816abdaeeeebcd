use Rattle.gp_report.specs.Telling.{HasClause}
use Rattle.gp_report.specs.Typed.{IsTypedStep}
use Rattle.gp_report.proofs.Seen.{one_seen}
use Rattle.gp_report.proofs.fit.steps_fit.Goals as goal

pub loop-step-preserved : goal.loop-step-preserved
loop-step-preserved c = (
  one_seen IsTypedStep c.args.steps.now c.step-item.result c.loop-step.step-index c.loop-step-test.true c.step-item.is c.step_fits.ensures.typed c.loop-step.invariant.0,
  one_seen HasClause c.args.steps.now c.step-item.result c.loop-step.step-index c.loop-step-test.true c.step-item.is c.step_fits.ensures.clause c.loop-step.invariant.1,
)
