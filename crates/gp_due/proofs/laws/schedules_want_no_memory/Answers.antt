use Rattle.gp_due.proofs.Schedules.{schedules_say}
use Rattle.gp_due.proofs.laws.schedules_want_no_memory.Goals as goal

pub returns : goal.returns
returns c = schedules_say
