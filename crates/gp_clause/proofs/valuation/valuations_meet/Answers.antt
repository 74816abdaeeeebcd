use Rattle.gp_clause.proofs.Written as laws
use Rattle.gp_clause.proofs.valuation.valuations_meet.Goals as goal

pub returns : goal.returns
returns c = laws.valuations_meet
