use Rattle.gp_due.proofs.Traces.{traces_say}
use Rattle.gp_due.proofs.laws.traces_want_no_memory.Goals as goal

pub returns : goal.returns
returns c = traces_say
