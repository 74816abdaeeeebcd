use Rattle.gp_agreement.proofs.Runs.{runs_agreed}
use Rattle.gp_agreement.proofs.laws.runs_agree.Goals as goal

pub returns : goal.returns
returns c = runs_agreed c.questions_are_alike.ensures c.patterns_answered.ensures c.tasks_agree.ensures c.links_agree.ensures
