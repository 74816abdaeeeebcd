use Rattle.gp_agreement.proofs.Written.{written_held}
use Rattle.gp_agreement.proofs.laws.written_is_held.Goals as goal

pub returns : goal.returns
returns c = written_held
