use Rattle.gp_notify.proofs.Valid.{extended_valid}
use Rattle.gp_notify.proofs.laws.extended_is_valid.Goals as goal

pub returns : goal.returns
returns c = extended_valid c.extensions_mean.ensures c.problems_are_valid.ensures
