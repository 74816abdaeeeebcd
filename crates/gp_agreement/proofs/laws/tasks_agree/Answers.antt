use Rattle.gp_agreement.proofs.Tasks.{tasks_agreed}
use Rattle.gp_agreement.proofs.laws.tasks_agree.Goals as goal

pub returns : goal.returns
returns c = tasks_agreed c.questions_are_alike.ensures c.patterns_answered.ensures
