use Rattle.gp_compact.proofs.Acceptance.{keeps_acceptance}
use Rattle.gp_compact.proofs.compacting.compact_keeps_acceptance.Goals as goal

pub returns : goal.returns
returns c = keeps_acceptance c.problems_are_valid.ensures
