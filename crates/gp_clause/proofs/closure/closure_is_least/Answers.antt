use Rattle.gp_clause.proofs.Least.{derived_true_in, no_conflict_in}
use Rattle.gp_clause.proofs.closure.closure_is_least.Goals as goal

pub returns : goal.returns
returns c = record { true_too = derived_true_in; no_conflict = no_conflict_in }
