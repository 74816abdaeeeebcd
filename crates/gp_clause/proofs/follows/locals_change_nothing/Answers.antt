use Rattle.gp_clause.proofs.Following as laws
use Rattle.gp_clause.proofs.follows.locals_change_nothing.Goals as goal

pub returns : goal.returns
returns c = laws.locals_nothing
