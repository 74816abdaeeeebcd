use Rattle.gp_agreement.proofs.Tasks.{tasks_decided}
use Rattle.gp_agreement.proofs.laws.tasks_decide.Goals as goal

pub returns : goal.returns
returns c = tasks_decided c.patterns_answered.ensures
