use Rattle.gp_due.proofs.Shown.{texts_done}
use Rattle.gp_due.proofs.laws.shown_texts_are_done.Goals as goal

pub returns : goal.returns
returns c = texts_done
