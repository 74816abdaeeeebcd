use Rattle.gp_due.proofs.Properties.{properties_say}
use Rattle.gp_due.proofs.laws.properties_want_no_memory.Goals as goal

pub returns : goal.returns
returns c = properties_say
