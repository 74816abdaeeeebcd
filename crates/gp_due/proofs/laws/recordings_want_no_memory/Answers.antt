use Rattle.gp_due.proofs.Recordings.{recordings_say}
use Rattle.gp_due.proofs.laws.recordings_want_no_memory.Goals as goal

pub returns : goal.returns
returns c = recordings_say
