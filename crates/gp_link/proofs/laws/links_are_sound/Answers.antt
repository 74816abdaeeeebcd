use Rattle.gp_link.proofs.Answered.{sound}
use Rattle.gp_link.proofs.laws.links_are_sound.Goals as goal

pub returns : goal.returns
returns c = sound c.states_begin_as_windows.ensures c.values_are_last_writes.ensures c.extensions_mean.ensures
