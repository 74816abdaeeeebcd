use Rattle.gp_link.proofs.Answering.{complete}
use Rattle.gp_link.proofs.laws.links_are_complete.Goals as goal

pub returns : goal.returns
returns c = complete c.states_begin_as_windows.ensures c.values_are_last_writes.ensures c.models_extend.ensures c.points_come_first.ensures
