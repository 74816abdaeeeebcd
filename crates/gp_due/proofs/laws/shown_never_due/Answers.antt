use Rattle.gp_due.proofs.Shown.{never_comes}
use Rattle.gp_due.proofs.laws.shown_never_due.Goals as goal

pub returns : goal.returns
returns c = never_comes
