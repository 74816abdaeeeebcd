use Rattle.gp_notify.proofs.Adding.{signals_added}
use Rattle.gp_notify.proofs.Valid.{valid_within}
use Rattle.gp_notify.proofs.laws.signals_are_added.Goals as goal

pub returns : goal.returns
returns c =
    signals_added c.sleeps_are_scanned.ensures c.models_extend.ensures (valid_within c.extensions_mean.ensures c.problems_are_valid.ensures)
