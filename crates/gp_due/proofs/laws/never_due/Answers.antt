use Rattle.gp_due.proofs.NeverDue.{never_comes}
use Rattle.gp_due.proofs.laws.never_due.Goals as goal

pub returns : goal.returns
returns c = never_comes
