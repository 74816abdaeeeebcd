use Rattle.gp_show.proofs.OneValue.{one_log}
use Rattle.gp_show.proofs.laws.sarif_is_one_log.Goals as goal

pub returns : goal.returns
returns c = one_log c.pieces_are_the_log.ensures
