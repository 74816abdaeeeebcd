use Rattle.gp_show.proofs.Told.{entries_are_told}
use Rattle.gp_show.proofs.laws.answers_are_entries.Goals as goal

pub returns : goal.returns
returns c = entries_are_told
