use Rattle.gp_clause.proofs.Extension as laws
use Rattle.gp_clause.proofs.valuation.valuations_extend.Goals as goal

pub returns : goal.returns
returns c = laws.extend
