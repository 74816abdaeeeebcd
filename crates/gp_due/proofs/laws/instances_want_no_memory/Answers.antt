use Rattle.gp_due.proofs.Instances.{instances_say}
use Rattle.gp_due.proofs.laws.instances_want_no_memory.Goals as goal

pub returns : goal.returns
returns c = instances_say
