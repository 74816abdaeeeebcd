use Rattle.gp_due.proofs.NeverDue.{texts_done}
use Rattle.gp_due.proofs.laws.texts_are_done.Goals as goal

pub returns : goal.returns
returns c = texts_done
