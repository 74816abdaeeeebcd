use Rattle.gp_notified.proofs.Joined.{answered}
use Rattle.gp_notified.proofs.laws.signals_are_answered.Goals as goal

pub returns : goal.returns
returns c = answered c.answers_are_lowered.ensures c.signals_are_sound.ensures c.signals_are_added.ensures c.schedules_are_complete.ensures
