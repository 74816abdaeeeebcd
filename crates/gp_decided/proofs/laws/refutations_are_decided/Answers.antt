use Rattle.gp_decided.specs.Refuting.{refutations_decided}
use Rattle.gp_decided.proofs.laws.refutations_are_decided.Goals as goal

pub returns : goal.returns
returns c = refutations_decided
