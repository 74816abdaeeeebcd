use Rattle.gp_bridge_rows.proofs.Lawful.{is_lawful}
use Rattle.gp_bridge_rows.proofs.ends.EndsQuestion.laws.Goals as goal

pub returns : goal.returns
returns c = is_lawful c.args.self.now.name c.args.self.now.kept c.problems_are_valid.ensures c.replay_means_feasible.ensures c.schedules_are_complete.ensures
