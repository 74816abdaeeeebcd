use Rattle.gp_notify.proofs.Sound.{signals_sound}
use Rattle.gp_notify.proofs.laws.signals_are_sound.Goals as goal

pub returns : goal.returns
returns c = signals_sound c.sleeps_are_scanned.ensures c.extensions_mean.ensures
