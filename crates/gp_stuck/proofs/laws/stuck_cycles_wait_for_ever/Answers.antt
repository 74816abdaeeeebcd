use Rattle.gp_stuck.proofs.Forever.{wait_for_ever}
use Rattle.gp_stuck.proofs.laws.stuck_cycles_wait_for_ever.Goals as goal

pub returns : goal.returns
returns c = wait_for_ever c.cycles_block.ensures c.events_are_counted.ensures
