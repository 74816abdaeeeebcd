use Rattle.gp_clause.proofs.Following as laws
use Rattle.gp_clause.proofs.follows.members_follow.Goals as goal

pub returns : goal.returns
returns c = laws.members
