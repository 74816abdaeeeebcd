use Rattle.gp_stuck.proofs.Complete.{complete}
use Rattle.gp_stuck.proofs.laws.stuck_schedules_are_complete.Goals as goal

pub returns : goal.returns
returns c = complete c.events_are_counted.ensures
