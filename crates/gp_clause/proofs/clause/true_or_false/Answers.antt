use Rattle.gp_clause.proofs.Truth as laws
use Rattle.gp_clause.proofs.clause.true_or_false.Goals as goal

pub returns : goal.returns
returns c = laws.true_or_false
