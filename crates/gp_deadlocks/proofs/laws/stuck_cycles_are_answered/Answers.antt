use Rattle.gp_deadlocks.proofs.Joined.{answered}
use Rattle.gp_deadlocks.proofs.laws.stuck_cycles_are_answered.Goals as goal

pub returns : goal.returns
returns c = answered c.cycles_block.ensures c.stuck_answers_are_sound.ensures c.stuck_schedules_are_complete.ensures c.witnesses_are_sound.ensures c.schedules_are_complete.ensures
