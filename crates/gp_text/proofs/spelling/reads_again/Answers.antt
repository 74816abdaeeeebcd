use Rattle.gp_text.proofs.ReadsAgain.{reads_again_lem}
use Rattle.gp_text.proofs.spelling.reads_again.Goals as goal

pub returns : goal.returns
returns c = reads_again_lem
