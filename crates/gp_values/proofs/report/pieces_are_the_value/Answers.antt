use Rattle.gp_values.proofs.Pieces.{pieces_whole}
use Rattle.gp_values.proofs.report.pieces_are_the_value.Goals as goal

pub returns : goal.returns
returns c = pieces_whole
