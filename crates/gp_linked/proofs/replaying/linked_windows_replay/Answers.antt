use Rattle.gp_linked.proofs.Replayed.{replayed}
use Rattle.gp_linked.proofs.replaying.linked_windows_replay.Goals as goal

pub returns : goal.returns
returns c = replayed c.found_schedules_replay.ensures
