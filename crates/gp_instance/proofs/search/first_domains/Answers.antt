-- What the candidates leave, where threads fit.
use Rattle.gp_instance.proofs.Crowded.{leaves_some}
use Rattle.gp_instance.proofs.search.first_domains.Goals as goal

pub returns-in-Some : goal.returns-in-Some
returns-in-Some c = leaves_some _ _ _ _ _ (rw c.in-Some.is at c.in_ok-domains.ensures) c.unless_crowded.ensures

pub returns-in-None : goal.returns-in-None
returns-in-None c = rw c.in-None.is at c.in_ok-domains.ensures
