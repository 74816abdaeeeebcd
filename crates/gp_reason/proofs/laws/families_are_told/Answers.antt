use Rattle.gp_reason.proofs.FamiliesTold.{family_told, none_told}
use Rattle.gp_reason.proofs.laws.families_are_told.Goals as goal

pub returns : goal.returns
returns c = record { family = family_told; none = none_told }
