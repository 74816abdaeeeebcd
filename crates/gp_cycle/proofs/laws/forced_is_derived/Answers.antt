use Rattle.gp_cycle.proofs.Derived.{told_conflicts, told_derived}
use Rattle.gp_cycle.proofs.laws.forced_is_derived.Goals as goal

pub returns : goal.returns
returns c = record { derived = told_derived; conflicts = told_conflicts }
