use Rattle.gp_clause.proofs.Deriving.{derived_true, no_conflict}
use Rattle.gp_clause.proofs.closure.derived_means.Goals as goal

pub returns : goal.returns
returns c = record { true_too = derived_true; no_conflict = no_conflict }
