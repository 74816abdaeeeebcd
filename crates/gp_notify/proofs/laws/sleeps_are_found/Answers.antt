use Rattle.gp_notify.proofs.Sleeps.{sleeps_found}
use Rattle.gp_notify.proofs.laws.sleeps_are_found.Goals as goal

pub returns : goal.returns
returns c = sleeps_found c.sleeps_are_scanned.ensures
