use Rattle.gp_due.proofs.Replays.{replays_say}
use Rattle.gp_due.proofs.laws.replays_want_no_memory.Goals as goal

pub returns : goal.returns
returns c = replays_say
