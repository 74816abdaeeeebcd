use Rattle.gp_stuck.proofs.Sound.{sound}
use Rattle.gp_stuck.proofs.laws.stuck_answers_are_sound.Goals as goal

pub returns : goal.returns
returns c = sound c.cycles_block.ensures c.events_are_counted.ensures
