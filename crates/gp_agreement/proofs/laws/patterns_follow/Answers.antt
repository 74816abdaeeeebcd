use Rattle.gp_agreement.proofs.Patterns.{patterns_followed}
use Rattle.gp_agreement.proofs.laws.patterns_follow.Goals as goal

pub returns : goal.returns
returns c = patterns_followed c.tasks_agree.ensures c.tasks_decide.ensures
