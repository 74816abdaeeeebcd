use Rattle.gp_sat.proofs.Steps.{propagates_more}
use Rattle.gp_sat.proofs.propagation.run.Goals as goal

pub returns-in-Quiet-clause-added : goal.returns-in-Quiet-clause-added
returns-in-Quiet-clause-added c = propagates_more c.args.kernel.now c.loop-number.kernel c.advance.new.kernel c.loop-number.invariant.added c.advance.ensures.added

pub returns-in-False-clause-added : goal.returns-in-False-clause-added
returns-in-False-clause-added c = propagates_more c.args.kernel.now c.loop-number.kernel c.advance.new.kernel c.loop-number.invariant.added c.advance.ensures.added

pub loop-number-preserved : goal.loop-number-preserved
loop-number-preserved c = record {
  ready = c.in-Forced.ensures.advanced.0;
  added = propagates_more c.args.kernel.now c.loop-number.kernel c.advance.new.kernel c.loop-number.invariant.added c.advance.ensures.added;
}
