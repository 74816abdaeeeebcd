use Rattle.gp_reasoned.proofs.Grounded.{grounded}
use Rattle.gp_reasoned.proofs.laws.grounds_are_told.Goals as goal

pub returns : goal.returns
returns c = grounded c.reasons_tell_what_they_rest_on.ensures c.families_are_told.ensures
