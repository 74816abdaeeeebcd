use Rattle.gp_show.proofs.OneValue.{one_value}
use Rattle.gp_show.proofs.laws.json_is_one_value.Goals as goal

pub returns : goal.returns
returns c = one_value c.pieces_are_the_value.ensures
