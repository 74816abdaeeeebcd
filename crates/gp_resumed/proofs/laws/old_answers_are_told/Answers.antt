use Rattle.gp_resumed.proofs.Keeping.{old_answers_are_told_lem}
use Rattle.gp_resumed.proofs.laws.old_answers_are_told.Goals as goal

pub returns : goal.returns
returns c = old_answers_are_told_lem
