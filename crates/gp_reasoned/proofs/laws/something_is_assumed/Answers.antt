use Rattle.gp_reasoned.proofs.Assuming.{something}
use Rattle.gp_reasoned.proofs.laws.something_is_assumed.Goals as goal

pub returns : goal.returns
returns c = something c.shared_follows.ensures c.locals_change_nothing.ensures c.problems_are_valid.ensures c.schedules_are_complete.ensures
