use Rattle.gp_checker.proofs.Exact.{checks_exact}
use Rattle.gp_checker.proofs.laws.checks_are_exact.Goals as goal

pub returns : goal.returns
returns c = checks_exact c.laws.ensures
