use Rattle.gp_clause.proofs.Following as laws
use Rattle.gp_clause.proofs.follows.follows_from_more.Goals as goal

pub returns : goal.returns
returns c = laws.from_more
