use Rattle.gp_overview.proofs.AddUp.{tables_add_up}
use Rattle.gp_overview.proofs.laws.tables_add_up.Goals as goal

pub returns : goal.returns
returns c = tables_add_up
