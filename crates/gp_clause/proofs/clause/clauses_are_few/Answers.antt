use Rattle.gp_clause.proofs.Counting.{few}
use Rattle.gp_clause.proofs.clause.clauses_are_few.Goals as goal

pub returns : goal.returns
returns c = few
