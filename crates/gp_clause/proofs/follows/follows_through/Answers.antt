use Rattle.gp_clause.proofs.Following as laws
use Rattle.gp_clause.proofs.follows.follows_through.Goals as goal

pub returns : goal.returns
returns c = laws.through
