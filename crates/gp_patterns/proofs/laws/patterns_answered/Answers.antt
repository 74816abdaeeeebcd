use Rattle.gp_patterns.proofs.Same.{patterns_answered_lem}
use Rattle.gp_patterns.proofs.laws.patterns_answered.Goals as goal

pub returns : goal.returns
returns c = patterns_answered_lem
