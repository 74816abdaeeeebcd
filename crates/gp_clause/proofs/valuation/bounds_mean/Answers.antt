use Rattle.gp_clause.proofs.Bounds as bounds
use Rattle.gp_clause.proofs.valuation.bounds_mean.Goals as goal

pub returns : goal.returns
returns c = bounds.bounds_mean
