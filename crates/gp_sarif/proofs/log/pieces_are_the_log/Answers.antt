use Rattle.gp_sarif.proofs.Pieces.{pieces_whole}
use Rattle.gp_sarif.proofs.log.pieces_are_the_log.Goals as goal

pub returns : goal.returns
returns c = pieces_whole
