use Rattle.gp_trace.proofs.Whole.{traces_fit}
use Rattle.gp_trace.proofs.trace.traces_fit.Goals as goal

pub returns : goal.returns
returns c = traces_fit
