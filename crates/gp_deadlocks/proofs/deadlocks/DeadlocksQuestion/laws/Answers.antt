use Rattle.gp_deadlocks.proofs.Lawful.{is_lawful}
use Rattle.gp_deadlocks.proofs.deadlocks.DeadlocksQuestion.laws.Goals as goal

pub returns : goal.returns
returns c = is_lawful c.problems_are_valid.ensures c.cycles_are_listed.ensures c.stuck_queries_are_valid.ensures c.stuck_cycles_are_answered.ensures
