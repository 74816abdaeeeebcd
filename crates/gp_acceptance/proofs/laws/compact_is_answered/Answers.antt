use Rattle.gp_acceptance.proofs.Compacted.{compacted_answered}
use Rattle.gp_acceptance.proofs.laws.compact_is_answered.Goals as goal

pub returns : goal.returns
returns c = compacted_answered c.compact_keeps_acceptance.ensures
